use Rattle.std.proofs.Common.{◌≡◌, true, false, ap, sym, ◌∙◌}
use Rattle.std.specs.Prelude.{is_ok, is_some}
use Rattle.vault_text.proofs.HexadecimalDigitLemmas.{digit-answered}
use Rattle.vault_text.proofs.hexadecimal.digit_value.Goals as goal

pub returns-in_err-ok : goal.returns-in_err-ok
returns-in_err-ok c =
    let refused : is_ok c.decode_to_slice.result ≡ false =
    sym c.ok.ensures.variant ∙ ap is_some c.in_err-ok.was in
    c.from_residual.ensures
    ∙ sym (rw refused
    at (digit-answered _ _ _ (rw c.as_slice.ensures at c.decode_to_slice.ensures.value)))

pub returns : goal.returns
returns c =
    let decoded : is_ok c.decode_to_slice.result ≡ true =
    sym c.ok.ensures.variant ∙ ap is_some c.in_ok-ok.was in
    sym (rw decoded
    at (digit-answered _ _ _ (rw c.as_slice.ensures at c.decode_to_slice.ensures.value)))
