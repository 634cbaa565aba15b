use Rattle.std.proofs.Common.{arith, rules, ◌∷◌, []}
use Rattle.std.proofs.lemmas.List.Elements.{All-append, All-cons, All-nil}
use Rattle.vault_cli.proofs.FileContentsLemmas.{IsLong}
use Rattle.vault_cli.proofs.reserving.password_buffers.Goals as goal

pub loop-alloc-preserved : goal.loop-alloc-preserved
loop-alloc-preserved c = (
  search (rules, arith, c.in_ok-push.ensures.len, c.loop-alloc-test.true, c.len.ensures),
  rw c.in_ok-push.ensures.items
      (All-append IsLong c.loop-alloc.buffers.items (c.in_ok-vec.field-0 ∷ [])
      c.loop-alloc.invariant.1
      (All-cons IsLong c.in_ok-vec.field-0 [] c.in_ok-vec.ensures.len (All-nil IsLong))),
)
