use Rattle.std.proofs.Common.{◌≡◌, true, Some, arith, sym}
use Rattle.std.specs.Result.{is_ok}
use Rattle.std.specs.String.{string_bytes}
use Rattle.std.proofs.lemmas.List.Elements.{All-pop}
use Rattle.vault_files.proofs.PathLogLemmas.{HasRoom, with-pushed}
use Rattle.vault_files.proofs.memory.path_log.PathLog.with.Goals as goal

pub returns : goal.returns
returns c =
    let popped = c.in_ok-text.ensures.items in
    let (rest, empty) = All-pop (HasRoom c.self.inside.longest) _ _ (Some c.in_ok-text.text) popped
    c.self.invariant.0 in
    let wrote : is_ok c.push_str.result ≡ true = sym c.in_ok-ok.ensures.variant in
    let logged : is_ok c.push.result ≡ true = sym c.in_ok-ok-2.ensures.variant in
    let holds : string_bytes c.push_str.new.self ≡ c.args.path.now =
    rw (wrote, empty.0) at c.push_str.ensures.bytes in
    let pushed = rw logged at c.push.ensures.items in
    rw (← c.self.view_is) (with-pushed c.self.inside.longest _ _ _ _ c.in_ok-text.text _ _
    (grind (arith, c.if-path-longest.false)) popped pushed holds)
