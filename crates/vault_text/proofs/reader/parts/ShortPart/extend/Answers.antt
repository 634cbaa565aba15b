use Rattle.std.proofs.Common.{rules, tests}
use Rattle.vault_text.proofs.InnerReaderLemmas.{PartHas-fits, PartHas-long}
use Rattle.vault_text.proofs.reader.parts.ShortPart.extend.Goals as goal

pub returns-then-is_err : goal.returns-then-is_err
returns-then-is_err g c text has =
    PartHas-long g.row.LIMIT g.row.LIMIT c.self.inside.bytes.items _ c.args.digits.now _ text _ _
    c.self.inside.is_long c.decode-count.ensures.decoded (search (rules, tests))
    (rw (← c.self.view_is) at has)

pub returns-else-is_err : goal.returns-else-is_err
returns-else-is_err g c text has =
    PartHas-fits g.row.LIMIT g.row.LIMIT c.self.inside.bytes.items c.args.digits.now _ text _ _
    c.self.inside.is_long c.decode-count.ensures.decoded
    c.try_extend_from_slice.new.self.items (search (rules, tests)) (search (rules, tests))
    (rw (← c.self.view_is) at has)
