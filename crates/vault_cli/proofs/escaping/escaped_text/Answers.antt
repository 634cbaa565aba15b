use Rattle.std.proofs.Common.{rules}
use Rattle.std.proofs.lemmas.Iterator.{YieldsList-from_chars}
use Rattle.std.proofs.lemmas.Iterator.Consumers.{YieldsList-end}
use Rattle.std.proofs.lemmas.List.{map-id}
use Rattle.vault_cli.proofs.EscapedLemmas.{encoded-more, text-printable}
use Rattle.vault_cli.proofs.escaping.escaped_text.Goals as goal

pub loop-c-preserved : goal.loop-c-preserved
loop-c-preserved c =
    rw (encoded-more c.loop-c.yielded c.in-Some.c, ← c.loop-c.invariant) (search rules)

pub returns : goal.returns
returns c =
    let all = (YieldsList-end (YieldsList-from_chars c.args.text.now c.utf8.text cc)
    c.loop-c.yielded _ c.loop-c.yielded_by _ _ c.in-None.is c.next.ensures.steps).0 in
    record {
      escaped = rw (← all, map-id c.loop-c.yielded) c.loop-c.invariant;
      printable = text-printable c.loop-c.escaped c.loop-c.yielded c.loop-c.invariant;
    }
