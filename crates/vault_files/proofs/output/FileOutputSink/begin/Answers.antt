use Rattle.std.proofs.Common.{◌∙◌, ap, arith, refl}
use Rattle.vault_files.specs.Output.{stage_of}
use Rattle.vault_files.specs.Output.OutputStep.{begins, fails_to_begin}
use Rattle.vault_files.specs.OutputProofs.{FileTakes-none}
use Rattle.vault_files.proofs.OutputLemmas.{takes_by, rises, unbegun-chosen}
use Rattle.vault_files.proofs.output.FileOutputSink.begin.Goals as goal

pub returns-then-is_saturated-clause-takes : goal.returns-then-is_saturated-clause-takes
returns-then-is_saturated-clause-takes g c = FileTakes-none g.D.System.executes
    g.met.D.System.executes_none _

pub returns-in_default-clause-takes : goal.returns-in_default-clause-takes
returns-in_default-clause-takes g c =
    let unbegun = ap (λ s. stage_of s.output) c.self.view_is ∙ c.requires in
    let chosen = unbegun-chosen c.self.inside.path.now c.self.inside.access c.self.inside.state
    unbegun in
    let (calls, fails, executed) = c.in_default.ensures in
    rw (← c.self.view_is, chosen)
    (takes_by g.D.System.executes _ _ (fails_to_begin _ _ calls fails) executed
    (rises _ _ c.if-is_saturated.ensures.saturated c.fail.ensures.risen) refl)

pub returns-clause-takes : goal.returns-clause-takes
returns-clause-takes g c =
    let unbegun = ap (λ s. stage_of s.output) c.self.view_is ∙ c.requires in
    let chosen = unbegun-chosen c.self.inside.path.now c.self.inside.access c.self.inside.state
    unbegun in
    rw (← c.self.view_is, chosen)
    (takes_by g.D.System.executes _ _ (begins _ _) c.in-Ok.ensures (omega arith) refl)
