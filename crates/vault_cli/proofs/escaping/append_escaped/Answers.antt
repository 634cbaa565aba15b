use Rattle.std.proofs.Common.{rules}
use Rattle.vault_cli.proofs.EscapedLemmas.{encoded-char}
use Rattle.vault_cli.proofs.escaping.append_escaped.Goals as goal

pub returns-then-is_unprintable : goal.returns-then-is_unprintable
returns-then-is_unprintable c =
    rw (encoded-char c.args.c, ← c.is_unprintable.ensures, c.if-is_unprintable.true) (search rules)

pub returns-else-is_unprintable : goal.returns-else-is_unprintable
returns-else-is_unprintable c =
    rw (encoded-char c.args.c, ← c.is_unprintable.ensures, c.if-is_unprintable.false) (search rules)
