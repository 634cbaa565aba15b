-- The labels of vault ids.
use Rattle.std.specs.Prelude.{ℕ, ◌-◌, ◌==◌, ◌&&◌, nat_le, not, Bool, List, length, slice_index}
use Rattle.std.specs.Prelude.{codes}
use Rattle.std.specs.List.{list_all}
use Rattle.vault_text.specs.declared.limits.TheConstants.{LABEL_LIMIT}

-- printable ASCII, and no semicolon (59), at which a header line is cut
abbrev pub is_label_character : ℕ → Bool
is_label_character c = nat_le 32 c && nat_le c 126 && not (c == 59)

-- 1 to 128 such characters, neither the first nor the last of them a space
abbrev pub is_label : List ℕ → Bool
is_label text =
    nat_le 1 (length text) && nat_le (length text) LABEL_LIMIT && list_all is_label_character text
    && not (slice_index text 0 == 32) && not (slice_index text (length text - 1) == 32)

-- the label of an envelope that names none
abbrev pub default_label : List ℕ
default_label = codes "default"
