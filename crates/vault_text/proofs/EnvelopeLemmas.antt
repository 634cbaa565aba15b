-- What holds of each payload that is read, also for the proofs of callers.
use Rattle.std.proofs.Common.{◌≡◌, ℕ, ◌≤◌, Bool, true, false, List, length, Result, Ok, Err, refl}
use Rattle.std.proofs.Common.{arith, inl, inr}
use Rattle.std.specs.Prelude.{if◌then◌else◌, nat_lt, IfOk}
use Rattle.std.specs.Option.{ok_or}
use Rattle.std.specs.Result.{result_ok}
use Rattle.std.proofs.lemmas.Bool.{cases_Bool}
use Rattle.std.proofs.lemmas.Bool.Decides.{nat_tests}
use Rattle.hex.specs.Hex.{IsBytes, decode_of}
use Rattle.hex.specs.declared.FromHexError.{FromHexError}
use Rattle.hex.proofs.HexLemmas.{decode_of-ok}
use Rattle.vault_text.specs.Envelope.{Payload, body, read_body, read_head, read_within}
use Rattle.vault_text.specs.Hexadecimal.{unhex}
use Rattle.vault_text.specs.InnerText.{Parts, cut, part_bytes, parts_of}
use Rattle.vault_text.specs.Limits.{ciphertext_limit, envelope_limit}
use Rattle.vault_text.specs.Steps.{◌>>=◌}
use Rattle.vault_text.specs.declared.fault.TextFault.{TextFault}
use Rattle.vault_text.specs.declared.fault.TextFault.TheVariants.{BadHex, BadPayload}

-- ---- what steps give

pub IfOk-steps : {A B : Type 0} (r : Result A TextFault) (f : A → Result B TextFault)
    (P : B → Type 0)
    → ((x : A) → r ≡ Ok x → IfOk (f x) P) → IfOk (r >>= f) P
IfOk-steps (Ok x) f P h = h x refl
IfOk-steps (Err fault) f P h = tt

pub IfOk-if : {A : Type 0} (b : Bool) (x : A) (fault : TextFault) (P : A → Type 0) → P x
    → IfOk (if b then Ok x else Err fault) P
IfOk-if true x fault P h = h
IfOk-if false x fault P h = tt

-- ---- the ciphertext

part_bytes-bytes : (digits bytes : List ℕ) → part_bytes digits ≡ Ok bytes → IsBytes bytes
part_bytes-bytes digits bytes h = by_decoded (decode_of digits) refl h
  where
    by_decoded : (decoded : Result (List ℕ) FromHexError) → decode_of digits ≡ decoded
        → ok_or (result_ok decoded) BadPayload ≡ Ok bytes → IsBytes bytes
    by_decoded (Ok found) known is =
        let same : found ≡ bytes = cc in rw same at ((decode_of-ok digits found known).3)
    by_decoded (Err fault) known is = absurd cc

parts_of-bytes : (text : List ℕ) → IfOk (parts_of text) (λ parts. IsBytes parts.ciphertext)
unfolding parts_of
parts_of-bytes text =
    let P : Parts → Type 0 = λ parts. IsBytes parts.ciphertext in
    IfOk-steps (ok_or (cut text) BadPayload) _ P (λ digits _.
    IfOk-steps (part_bytes digits.salt) _ P (λ salt _.
    IfOk-steps (part_bytes digits.tag) _ P (λ tag _.
    IfOk-steps (part_bytes digits.ciphertext) _ P (λ ciphertext found.
    IfOk-if _ (record { salt = salt; tag = tag; ciphertext = ciphertext }) BadPayload P
    (part_bytes-bytes digits.ciphertext ciphertext found)))))

-- bytes, no more of them than the limit allows
pub record HasFittingCiphertext (limit : ℕ) (payload : Payload) : Type 0 where
  pub bytes : IsBytes payload.ciphertext
  pub fits : length payload.ciphertext ≤ ciphertext_limit limit

read_body-fits : (limit : ℕ) (label digits : List ℕ)
    → IfOk (read_body limit label digits) (HasFittingCiphertext limit)
unfolding read_body
read_body-fits limit label digits =
    IfOk-steps (ok_or (unhex digits) BadHex) _ (HasFittingCiphertext limit) (λ inner _.
    IfOk-steps (parts_of inner) _ (HasFittingCiphertext limit) (λ parts found.
    elim (cases_Bool (nat_lt (ciphertext_limit limit) (length parts.ciphertext))) [
      | inl long ↦ rw long tt
      | inr short ↦
          let fits : length parts.ciphertext ≤ ciphertext_limit limit = grind (arith, nat_tests) in
          rw short (record { bytes = rw found at (parts_of-bytes inner); fits = fits })
    ]))

pub read_within-fits : (limit : ℕ) (input : List ℕ)
    → IfOk (read_within limit input) (HasFittingCiphertext limit)
unfolding read_within
read_within-fits limit input =
    elim (cases_Bool (nat_lt (envelope_limit limit) (length input))) [
      | inl long ↦ rw long tt
      | inr short ↦
          rw short (IfOk-steps (read_head input) _ (HasFittingCiphertext limit)
          (λ label _. read_body-fits limit label (body input)))
    ]
