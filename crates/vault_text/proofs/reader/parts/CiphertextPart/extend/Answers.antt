use Rattle.std.proofs.Common.{refl, rules, tests}
use Rattle.vault_text.proofs.InnerReaderLemmas.{PartHas-fits, PartHas-long}
use Rattle.vault_text.proofs.reader.parts.CiphertextPart.extend.Goals as goal

pub returns-then-count-room : goal.returns-then-count-room
returns-then-count-room c limit text has =
    rw c.put.ensures
    (PartHas-fits limit c.self.inside.memory.limit c.self.inside.memory.bytes c.args.digits.now _
    text _ _ c.self.inside.is_long c.decode-count.ensures.decoded
    _ refl (search (rules, tests)) (rw (← c.self.view_is) at has))

pub returns-else-count-room : goal.returns-else-count-room
returns-else-count-room c limit text has =
    PartHas-long limit c.self.inside.memory.limit c.self.inside.memory.bytes _ c.args.digits.now _
    text _ _ c.self.inside.is_long c.decode-count.ensures.decoded
    (search (rules, tests)) (rw (← c.self.view_is) at has)
