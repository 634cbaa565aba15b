use Rattle.std.proofs.Common.{◌≡◌}
use Rattle.std.specs.List.{flat_map}
use Rattle.std.specs.Str.{encode_utf8_all}
use Rattle.std.specs.String.{string_bytes}
use Rattle.vault_cli.specs.Escaped.{escaped_char}
use Rattle.vault_cli.proofs.escaping.escaped_text.Given as goal

abbrev pub invariant-loop-c : goal.invariant-loop-c
invariant-loop-c l = string_bytes l.escaped ≡ encode_utf8_all (flat_map escaped_char l.yielded)
