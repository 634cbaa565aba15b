-- Hexadecimal text, pair by pair.
use Rattle.std.proofs.Common.{◌≡◌, ℕ, ◌+◌, ◌*◌, ◌%◌, ◌≤◌, ◌==◌, Bool, true, false, List, [], ◌∷◌}
use Rattle.std.proofs.Common.{◌++◌, length, take, drop, Option, Some, None, Result, Ok, Err, refl}
use Rattle.std.proofs.Common.{sym, ap, ◌∙◌, arith, inl, inr, append_assoc}
use Rattle.std.specs.Prelude.{if◌then◌else◌, slice_get, ◌||◌, is_some, not}
use Rattle.std.proofs.lemmas.List.{append-nil, length-drop, take-append-drop}
use Rattle.std.specs.Option.{option_map, option_to_list}
use Rattle.std.specs.Result.{result_ok}
use Rattle.std.proofs.lemmas.Bool.{cases_Bool, eqb-true}
use Rattle.hex.specs.Hex.{decode_pairs, digit_or_error, hex_digit_value, pair_value, ◌>>=◌}
use Rattle.hex.specs.declared.error.FromHexError.{FromHexError}
use Rattle.vault_text.specs.Hexadecimal.{DecoderState, new_decoder, unhex, unhex_on, Decodes}

abbrev pub pair_found : Option ℕ → Option ℕ → Option ℕ
pair_found (Some h) (Some l) = Some (h * 16 + l)
pair_found (Some h) None = None
pair_found None l = None

-- the byte of two digits
abbrev pub byte_of : ℕ → ℕ → Option ℕ
byte_of high low = pair_found (hex_digit_value high) (hex_digit_value low)

abbrev pub cons_found : Option ℕ → Option (List ℕ) → Option (List ℕ)
cons_found (Some byte) (Some bytes) = Some (byte ∷ bytes)
cons_found (Some byte) None = None
cons_found None found = None

-- the bytes of a text, pair by pair
abbrev pub spelled_bytes : List ℕ → Option (List ℕ)
spelled_bytes [] = Some []
spelled_bytes (digit ∷ []) = None
spelled_bytes (high ∷ low ∷ rest) = cons_found (byte_of high low) (spelled_bytes rest)

result_ok-pair : (high low i : ℕ) (h l : Option ℕ)
    → result_ok
    (digit_or_error high i h >>= (λ a. digit_or_error low (i + 1) l >>= (λ b. Ok (a * 16 + b))))
    ≡ pair_found h l
result_ok-pair high low i (Some h) (Some l) = refl
result_ok-pair high low i (Some h) None = refl
result_ok-pair high low i None l = refl

result_ok-cons : (r : Result ℕ FromHexError) (s : Result (List ℕ) FromHexError)
    → result_ok (r >>= (λ byte. s >>= (λ bytes. Ok (byte ∷ bytes))))
    ≡ cons_found (result_ok r) (result_ok s)
result_ok-cons (Ok b) (Ok bs) = refl
result_ok-cons (Ok b) (Err e) = refl
result_ok-cons (Err e) s = refl

decode_pairs-spelled_bytes : (i : ℕ) (text : List ℕ)
    → result_ok (decode_pairs i text) ≡ spelled_bytes text
unfolding decode_pairs
decode_pairs-spelled_bytes i [] = refl
decode_pairs-spelled_bytes i (digit ∷ []) = refl
decode_pairs-spelled_bytes i (high ∷ low ∷ rest) =
    result_ok-cons (pair_value high low i) (decode_pairs (i + 2) rest)
    ∙ rw (
      result_ok-pair high low i (hex_digit_value high) (hex_digit_value low),
      decode_pairs-spelled_bytes (i + 2) rest,
    ) refl

spelled_bytes-odd : (text : List ℕ) → length text % 2 ≡ 1 → spelled_bytes text ≡ None
spelled_bytes-odd [] odd = absurd (omega arith)
spelled_bytes-odd (digit ∷ []) odd = refl
spelled_bytes-odd (high ∷ low ∷ rest) odd =
    rw (spelled_bytes-odd rest (omega arith)) (none (byte_of high low))
  where
    none : (o : Option ℕ) → cons_found o None ≡ None
    none (Some b) = refl
    none None = refl

pub unhex-spelled_bytes : (text : List ℕ) → unhex text ≡ spelled_bytes text
unhex-spelled_bytes text =
    elim (cases_Bool (length text % 2 == 1)) [
      | inl odd ↦ rw (odd, spelled_bytes-odd text (eqb-true (length text % 2) 1 odd)) refl
      | inr even ↦ rw even (decode_pairs-spelled_bytes 0 text)
    ]

-- two lists, one after the other, if both are there
abbrev pub both_found : Option (List ℕ) → Option (List ℕ) → Option (List ℕ)
both_found (Some xs) more = option_map (λ rest. xs ++ rest) more
both_found None more = None

option_map-nil : (o : Option (List ℕ)) → option_map (λ (rest : List ℕ). [] ++ rest) o ≡ o
option_map-nil (Some xs) = refl
option_map-nil None = refl

cons_found-both_found : (b : Option ℕ) (xs ys : Option (List ℕ))
    → cons_found b (both_found xs ys) ≡ both_found (cons_found b xs) ys
cons_found-both_found (Some b) (Some xs) (Some ys) = refl
cons_found-both_found (Some b) (Some xs) None = refl
cons_found-both_found (Some b) None ys = refl
cons_found-both_found None xs ys = refl

-- a text after whole pairs
pub spelled_bytes-append : (pairs more : List ℕ) → length pairs % 2 ≡ 0
    → spelled_bytes (pairs ++ more) ≡ both_found (spelled_bytes pairs) (spelled_bytes more)
spelled_bytes-append [] more even = sym (option_map-nil (spelled_bytes more))
spelled_bytes-append (digit ∷ []) more even = absurd (omega arith)
spelled_bytes-append (high ∷ low ∷ rest) more even =
    rw (spelled_bytes-append rest more (omega arith))
    (cons_found-both_found (byte_of high low) (spelled_bytes rest) (spelled_bytes more))

pub unhex-append : (pairs more : List ℕ) → length pairs % 2 ≡ 0
    → unhex (pairs ++ more) ≡ both_found (unhex pairs) (unhex more)
unhex-append pairs more even =
    rw (unhex-spelled_bytes (pairs ++ more), unhex-spelled_bytes pairs, unhex-spelled_bytes more)
    (spelled_bytes-append pairs more even)

unless_bad : (is_bad is_good : Bool) (bytes : List ℕ) (whole pairs more : Option (List ℕ))
    → whole ≡ both_found pairs more
    → pairs ≡ (if is_good then Some bytes else None)
    → (if is_bad then None else whole)
    ≡ option_map (λ rest. bytes ++ rest) (if is_bad || not is_good then None else more)
unless_bad true is_good bytes whole pairs more e found = refl
unless_bad false true bytes whole pairs more e found = rw (e, found) refl
unless_bad false false bytes whole pairs more e found = rw (e, found) refl

-- whole pairs, if no digit waits
pub Decodes-pairs : (decoder : DecoderState) (pairs bytes : List ℕ) (is_good : Bool)
    → decoder.high ≡ None → unhex pairs ≡ (if is_good then Some bytes else None)
    → length pairs % 2 ≡ 0
    → Decodes decoder pairs bytes
    (record { high = decoder.high; is_bad = decoder.is_bad || not is_good })
Decodes-pairs decoder pairs bytes is_good aligned found even = record {
  spelled = λ more.
      rw aligned
      (unless_bad decoder.is_bad is_good bytes _ (unhex pairs) (unhex more)
      (unhex-append pairs more even) found);
}

-- a digit that waits for its second
pub Decodes-waits : (decoder : DecoderState) (rest : List ℕ) → decoder.high ≡ None → length rest ≤ 1
    → Decodes decoder rest [] (record { high = slice_get rest 0; is_bad = decoder.is_bad })
Decodes-waits decoder [] aligned one =
    record { spelled = λ more. rw aligned (sym (option_map-nil _)) }
Decodes-waits decoder (digit ∷ []) aligned one =
    record { spelled = λ more. rw aligned (sym (option_map-nil _)) }
Decodes-waits decoder (digit ∷ next ∷ rest) aligned one = absurd (omega arith)

option_map-append : (xs ys : List ℕ) (o : Option (List ℕ))
    → option_map (λ rest. xs ++ rest) (option_map (λ rest. ys ++ rest) o)
    ≡ option_map (λ rest. (xs ++ ys) ++ rest) o
option_map-append xs ys (Some zs) = ap Some (sym (append_assoc xs ys zs))
option_map-append xs ys None = refl

-- what a text spells that a new decoder was given
pub Decodes-whole : (text bytes : List ℕ) (decoder : DecoderState)
    → Decodes new_decoder text bytes decoder
    → unhex text ≡ option_map (λ rest. bytes ++ rest) (unhex_on decoder [])
Decodes-whole text bytes decoder p = ap unhex (sym (append-nil text)) ∙ p.spelled []

-- no digits
pub Decodes-nothing : Decodes new_decoder [] [] new_decoder
Decodes-nothing = record { spelled = λ more. sym (option_map-nil (unhex_on new_decoder more)) }

-- digits that were taken first, and digits that were taken then
pub Decodes-more : (a b c : DecoderState) (xs ys first second : List ℕ)
    → Decodes a xs first b → Decodes b ys second c → Decodes a (xs ++ ys) (first ++ second) c
Decodes-more a b c xs ys first second p q = record {
  spelled = λ more.
      rw (append_assoc xs ys more) (p.spelled (ys ++ more))
      ∙ ap (option_map (λ rest. first ++ rest)) (q.spelled more)
      ∙ option_map-append first second (unhex_on c more);
}

-- the digit that waits is the first of the text
pub Decodes-waiting : (old between new : DecoderState) (high : ℕ) (digits bytes : List ℕ)
    → old.high ≡ Some high → between.high ≡ None → between.is_bad ≡ old.is_bad
    → Decodes between (high ∷ digits) bytes new → Decodes old digits bytes new
Decodes-waiting old between new high digits bytes waits aligned same p = record {
  spelled = λ more.
      let whole = p.spelled more in
      rw (waits, ← same) (rw aligned at whole);
}

-- whole pairs, and the digit that is left
pub Decodes-aligned : (old between : DecoderState) (digits bytes : List ℕ) (n : ℕ)
    → between.high ≡ None → length digits ≤ 2 * n + 1
    → Decodes old (take (2 * n) digits) bytes between
    → Decodes old digits bytes
    (record { high = slice_get (drop (2 * n) digits) 0; is_bad = between.is_bad })
Decodes-aligned old between digits bytes n aligned short p =
    let more = Decodes-more old between _ (take (2 * n) digits) (drop (2 * n) digits) bytes [] p
    (Decodes-waits between (drop (2 * n) digits) aligned
    (omega (arith, length-drop (2 * n) digits))) in
    rw (take-append-drop, append-nil) at more

-- nothing follows
pub unhex_on-nil : (decoder : DecoderState) (is_complete : Bool) → decoder.is_bad ≡ false
    → is_some decoder.high ≡ not is_complete
    → unhex_on decoder [] ≡ (if is_complete then Some [] else None)
unhex_on-nil decoder is_complete good waits = rw good (ends decoder.high is_complete waits)
  where
    ends : (high : Option ℕ) (is_complete : Bool) → is_some high ≡ not is_complete
        → unhex (option_to_list high ++ []) ≡ (if is_complete then Some [] else None)
    ends None true waits = unhex-spelled_bytes []
    ends None false waits = cc
    ends (Some digit) true waits = cc
    ends (Some digit) false waits = unhex-spelled_bytes (digit ∷ [])

-- a decoder to which nothing need follow is as a new one
pub complete-is_new : (decoder : DecoderState) → unhex_on decoder [] ≡ Some []
    → decoder ≡ new_decoder
complete-is_new decoder complete = parts decoder.high decoder.is_bad complete
  where
    parts : (high : Option ℕ) (is_bad : Bool)
        → unhex_on (record { high = high; is_bad = is_bad }) [] ≡ Some []
        → record { high = high; is_bad = is_bad } ≡ new_decoder
    parts None false complete = refl
    parts None true complete = cc
    parts (Some digit) true complete = cc
    parts (Some digit) false complete = let none = unhex-spelled_bytes (digit ∷ []) in cc

-- after a bad digit, or one that waits, whole pairs spell nothing
pub unhex_on-incomplete : (decoder : DecoderState) (pairs : List ℕ) → unhex_on decoder [] ≡ None
    → length pairs % 2 ≡ 0 → unhex_on decoder pairs ≡ None
unhex_on-incomplete decoder pairs incomplete even = parts decoder.high decoder.is_bad incomplete
  where
    parts : (high : Option ℕ) (is_bad : Bool)
        → unhex_on (record { high = high; is_bad = is_bad }) [] ≡ None
        → unhex_on (record { high = high; is_bad = is_bad }) pairs ≡ None
    parts high true incomplete = refl
    parts None false incomplete = let found = unhex-spelled_bytes [] in cc
    parts (Some digit) false incomplete =
        unhex-spelled_bytes (digit ∷ pairs)
        ∙ spelled_bytes-odd (digit ∷ pairs) (omega (arith, even))
