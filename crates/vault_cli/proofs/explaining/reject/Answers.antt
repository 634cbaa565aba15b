use Rattle.std.proofs.Common.{◌++◌, ℕ, List, Result, Ok, Err, inl, inr, refl}
use Rattle.std.specs.Prelude.{OnErr, OnOk}
use Rattle.vault_cli.specs.Call.{SinkCall, sink}
use Rattle.vault_cli.specs.runs.OutputEnd.{to_sink}
use Rattle.vault_cli.specs.runs.Reports.{Reports}
use Rattle.vault_cli.proofs.explaining.reject.Goals as goal

-- a text was written, or only its first bytes
reports : {T F E : Type 0} (err : SinkCall E) (text : List ℕ) (r : Result T F)
    → OnOk r ((to_sink err).received text) → OnErr r ((to_sink err).cut text) → Reports err text
reports err text (Ok value) received cut = inl received
reports err text (Err error) received cut = inr cut

pub returns : goal.returns
returns g c =
    let (shown, is_shown, whole) = c.in-Ok.ensures in
    inl (
      refl,
      (
        shown,
        is_shown,
        rw (← whole, ← c.as_bytes.ensures.value)
            (reports (sink g.E.Sink c.args.err.now c.write_text.new.out) c.as_bytes.result.now
            c.write_text.result c.write_text.ensures.received c.write_text.ensures.cut),
      ),
    )
