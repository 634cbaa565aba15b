use Rattle.std.proofs.Common.{◌≡◌, map, take}
use Rattle.std.specs.String.{string_bytes}
use Rattle.vault_cli.specs.Escaped.{escaped_text}
use Rattle.vault_cli.proofs.escaping.escaped_words.Given as goal

abbrev pub invariant-loop-i : goal.invariant-loop-i
invariant-loop-i l =
    map string_bytes l.escaped.items ≡ map escaped_text (map string_bytes (take l.i l.words))
