-- ASCII whitespace, and text without it at its ends.
use Rattle.std.specs.Prelude.{ℕ, ◌-◌, ◌==◌, ◌&&◌, ◌||◌, nat_le, Bool, List, length, take, drop}
use Rattle.std.specs.List.{prefix_len, suffix_len}

-- the bytes 9 (tab) to 13 (carriage return), and the space
abbrev pub is_whitespace : ℕ → Bool
is_whitespace b = (nat_le 9 b && nat_le b 13) || b == 32

-- without the whitespace at the start
abbrev pub strip_start : List ℕ → List ℕ
strip_start bytes = drop (prefix_len is_whitespace bytes) bytes

-- without the whitespace at the end
abbrev pub strip_end : List ℕ → List ℕ
strip_end bytes = take (length bytes - suffix_len is_whitespace bytes) bytes

-- the bytes without the whitespace at both ends
abbrev pub strip : List ℕ → List ℕ
strip bytes = strip_end (strip_start bytes)
