-- The lines of a body, one after another.
use Rattle.std.proofs.Common.{◌≡◌, ℕ, zero, suc, ◌+◌, ◌-◌, ◌*◌, ◌/◌, ◌%◌, ◌<◌, ◌≤◌, ◌⊎◌, inl, inr}
use Rattle.std.proofs.Common.{List, [], ◌∷◌, ◌++◌, length, take, drop, map, min, ap, sym, ◌∙◌, refl}
use Rattle.std.proofs.Common.{arith, append_assoc, length-append, length-drop, length-take}
use Rattle.std.proofs.lemmas.List.{append-nil, drop-drop, drop_all, length-take-le, take_all}
use Rattle.std.proofs.lemmas.List.{take_min, take-append-drop, take-append-le, drop-append-le}
use Rattle.std.proofs.lemmas.List.Concat.{flat_map-append}
use Rattle.std.proofs.Math.Seq.{take-add}
use Rattle.std.specs.List.{range_with_len}
use Rattle.hex.specs.Hex.{encode_lower, encode_with, lower_digits}
use Rattle.hex.proofs.HexLemmas.{length-encode_with}
use Rattle.vault_text.specs.Written.{body_line, body_lines, hexadecimal_lines, inner_text}
use Rattle.vault_text.specs.Written.{text_of_lines}

-- ---- digits

encode_with-append : (t xs ys : List ℕ)
    → encode_with t (xs ++ ys) ≡ encode_with t xs ++ encode_with t ys
unfolding encode_with
encode_with-append t [] ys = refl
encode_with-append t (b ∷ rest) ys = rw (encode_with-append t rest ys) refl

pub encode_lower-append : (xs ys : List ℕ)
    → encode_lower (xs ++ ys) ≡ encode_lower xs ++ encode_lower ys
encode_lower-append xs ys = encode_with-append lower_digits xs ys

pub encode_lower-halves : (xs first second : List ℕ) → first ++ second ≡ xs
    → encode_lower xs ≡ encode_lower first ++ encode_lower second
encode_lower-halves xs first second whole = rw (← whole) (encode_lower-append first second)

pub four_appends : (old a b c d first second third fourth : List ℕ)
    → first ≡ old ++ a → second ≡ first ++ b → third ≡ second ++ c → fourth ≡ third ++ d
    → fourth ≡ old ++ (a ++ (b ++ c) ++ d)
four_appends old a b c d first second third fourth e1 e2 e3 e4 =
    rw (e4, e3, e2, e1, append_assoc (old ++ a) b c, append_assoc old a (b ++ c)) (
    append_assoc old (a ++ (b ++ c)) d)

pub encode_lower-nil : encode_lower [] ≡ []
unfolding encode_with
encode_lower-nil = refl

pub length-encode_lower : (xs : List ℕ) → length (encode_lower xs) ≡ 2 * length xs
length-encode_lower xs = length-encode_with lower_digits xs

-- ---- lines of digits

map-later : {A : Type 0} (f g : ℕ → A) (start count : ℕ) → ((i : ℕ) → f (i + 1) ≡ g i)
    → map f (range_with_len (start + 1) count) ≡ map g (range_with_len start count)
map-later f g start zero same = refl
map-later f g start (suc count) same = rw (same start, map-later f g (start + 1) count same) refl

body_line-later : (digits : List ℕ) (i : ℕ)
    → body_line digits (i + 1) ≡ body_line (drop 80 digits) i
body_line-later digits i =
    let later : drop (80 * i) (drop 80 digits) ≡ drop (80 * (i + 1)) digits =
    drop-drop (80 * i) 80 digits ∙ ap (λ (n : ℕ). drop n digits) (omega arith) in
    let left = length-drop 80 digits in
    let many : min (80 * (i + 1) + 80) (length digits) - 80 * (i + 1)
    ≡ min (80 * i + 80) (length (drop 80 digits)) - 80 * i =
    omega arith in
    rw (later, many) refl

pub body_lines-nil : body_lines [] ≡ []
unfolding body_lines
body_lines-nil = refl

-- the first line, and the lines of the digits after it
pub body_lines-step : (digits : List ℕ) → 0 < length digits
    → body_lines digits ≡ take 80 digits ∷ body_lines (drop 80 digits)
unfolding body_lines
body_lines-step digits some =
    let left = length-drop 80 digits in
    let count : (length digits + 80 - 1) / 80 ≡ suc ((length (drop 80 digits) + 80 - 1) / 80) =
    omega arith in
    let many : min (80 * 0 + 80) (length digits) - 80 * 0 ≡ min 80 (length digits) = omega arith in
    let first : body_line digits 0 ≡ take 80 digits =
    ap (λ (n : ℕ). take n digits) many ∙ take_min 80 digits in
    let later = map-later (body_line digits) (body_line (drop 80 digits)) 0
    ((length (drop 80 digits) + 80 - 1) / 80) (body_line-later digits) in
    rw (count, first, later) refl

-- the lines of whole lines, and of the digits after them
body_lines-whole : (lines : ℕ) (xs ys : List ℕ) → length xs ≡ 80 * lines
    → body_lines (xs ++ ys) ≡ body_lines xs ++ body_lines ys
body_lines-whole zero [] ys len = rw body_lines-nil refl
body_lines-whole zero (x ∷ xs) ys len = absurd (omega arith)
body_lines-whole (suc lines) xs ys len =
    let both = length-append xs ys in
    let rest : length (drop 80 xs) ≡ 80 * lines = omega (arith, length-drop 80 xs) in
    let all = body_lines-step (xs ++ ys) (omega arith) in
    let prefix = body_lines-step xs (omega arith) in
    let digits : take 80 (xs ++ ys) ≡ take 80 xs = take-append-le 80 xs ys (omega arith) in
    let later : drop 80 (xs ++ ys) ≡ drop 80 xs ++ ys = drop-append-le 80 xs ys (omega arith) in
    let ih = body_lines-whole lines (drop 80 xs) ys rest in
    all ∙ rw (digits, later, ih, prefix) refl

-- digits of at most one line
pub body_lines-one : (digits : List ℕ) → 0 < length digits → length digits ≤ 80
    → body_lines digits ≡ digits ∷ []
body_lines-one digits some few =
    body_lines-step digits some
    ∙ rw (take_all 80 digits few, drop_all 80 digits few, body_lines-nil) refl

-- ---- text of lines

pub text_of_lines-append : (indentation : List ℕ) (xs ys : List (List ℕ))
    → text_of_lines indentation (xs ++ ys)
    ≡ text_of_lines indentation xs ++ text_of_lines indentation ys
unfolding text_of_lines
text_of_lines-append indentation xs ys =
    flat_map-append (λ line. indentation ++ line ++ 10 ∷ []) xs ys

pub text_of_lines-cons : (indentation line : List ℕ) (lines : List (List ℕ))
    → text_of_lines indentation (line ∷ []) ++ text_of_lines indentation lines
    ≡ text_of_lines indentation (line ∷ lines)
text_of_lines-cons indentation line lines = sym (text_of_lines-append indentation (line ∷ []) lines)

pub text_of_lines-one : (indentation line : List ℕ)
    → text_of_lines indentation (line ∷ []) ≡ indentation ++ line ++ 10 ∷ []
unfolding text_of_lines
text_of_lines-one indentation line = append-nil (indentation ++ line ++ 10 ∷ [])

pub body_text-nil : (indentation : List ℕ) → text_of_lines indentation (body_lines []) ≡ []
unfolding body_lines text_of_lines
body_text-nil indentation = refl

-- the first line of a text, and the lines after it
pub body_text-step : (indentation digits : List ℕ) → 0 < length digits
    → text_of_lines indentation (body_lines digits)
    ≡ (indentation ++ take 80 digits ++ 10 ∷ [])
    ++ text_of_lines indentation (body_lines (drop 80 digits))
body_text-step indentation digits some =
    rw (body_lines-step digits some, ← text_of_lines-cons, text_of_lines-one) refl

-- a prefix of a text, and what follows it up to `end`
take-until : (bytes : List ℕ) (start end : ℕ) → start ≤ end
    → take start bytes ++ take (end - start) (drop start bytes) ≡ take end bytes
take-until bytes start end forward =
    let to : start + (end - start) ≡ end = omega arith in
    rw (← take-add start (end - start) bytes, to) refl

-- the lines of two texts, if the first fills whole lines or the second is empty
body_text-parts : (indentation xs ys : List ℕ) → (length xs % 80 ≡ 0) ⊎ (ys ≡ [])
    → text_of_lines indentation (body_lines xs) ++ text_of_lines indentation (body_lines ys)
    ≡ text_of_lines indentation (body_lines (xs ++ ys))
body_text-parts indentation xs ys (inl whole) =
    let lines = body_lines-whole (length xs / 80) xs ys (omega arith) in
    rw (lines, text_of_lines-append indentation (body_lines xs) (body_lines ys)) refl
body_text-parts indentation xs ys (inr none) =
    rw (none, body_text-nil, append-nil xs) (append-nil (text_of_lines indentation (body_lines xs)))

-- at most one line of digits, after whole lines
body_text-line : (indentation xs piece : List ℕ) → length xs % 80 ≡ 0 → 0 < length piece
    → length piece ≤ 80
    → text_of_lines indentation (body_lines xs) ++ (indentation ++ piece ++ 10 ∷ [])
    ≡ text_of_lines indentation (body_lines (xs ++ piece))
body_text-line indentation xs piece whole some few =
    rw (← text_of_lines-one indentation piece, ← body_lines-one piece some few)
    (body_text-parts indentation xs piece (inl whole))

-- one more line of a text whose lines each spell 40 bytes
pub body_text-next : (indentation bytes : List ℕ) (line end : ℕ) → line * 40 < length bytes
    → end ≡ min (length bytes) (line * 40 + 40)
    → hexadecimal_lines indentation (take (line * 40) bytes)
    ++ (indentation ++ encode_lower (take (end - line * 40) (drop (line * 40) bytes)) ++ 10 ∷ [])
    ≡ hexadecimal_lines indentation (take ((line + 1) * 40) bytes)
body_text-next indentation bytes line end inside until =
    let piece = take (end - line * 40) (drop (line * 40) bytes) in
    let before = length-encode_lower (take (line * 40) bytes) in
    let prefix = length-take-le (line * 40) bytes (omega arith) in
    let left = length-drop (line * 40) bytes in
    let size = length-take (end - line * 40) (drop (line * 40) bytes) in
    let digits = length-encode_lower piece in
    let to : end ≡ min ((line + 1) * 40) (length bytes) = omega arith in
    let joined = take-until bytes (line * 40) end (omega arith) in
    rw (
      body_text-line indentation (encode_lower (take (line * 40) bytes)) (encode_lower piece)
          (omega arith) (omega arith) (omega arith),
      ← encode_lower-append,
      joined,
      to,
      take_min,
    ) refl

-- ---- the inner text

pub length-inner_text : (salt tag ciphertext : List ℕ)
    → length (inner_text salt tag ciphertext)
    ≡ 2 * length salt + 2 * length tag + 2 * length ciphertext + 2
length-inner_text salt tag ciphertext = simp (length-append, length-encode_lower) (omega arith)

-- a part of the ciphertext, and what follows it
pub inner_text-split : (salt tag ciphertext loaded inner prefix rest : List ℕ)
    → loaded ≡ inner_text salt tag [] → inner ≡ loaded ++ encode_lower prefix
    → prefix ++ rest ≡ ciphertext
    → inner ++ encode_lower rest ≡ inner_text salt tag ciphertext
inner_text-split salt tag ciphertext loaded inner prefix rest start spells both =
    rw (spells, start, append_assoc, ← encode_lower-append, both)
    (rw encode_lower-nil (simp append_assoc))

-- the text of a body whose first lines spell the inner text as far as the rest of the ciphertext
pub body_text-split : (indentation salt tag ciphertext inner rest : List ℕ)
    → inner ++ encode_lower rest ≡ inner_text salt tag ciphertext
    → (length inner ≡ 600) ⊎ (rest ≡ [])
    → hexadecimal_lines indentation inner ++ hexadecimal_lines indentation (encode_lower rest)
    ≡ hexadecimal_lines indentation (inner_text salt tag ciphertext)
body_text-split indentation salt tag ciphertext inner rest all full =
    let digits = length-encode_lower inner in
    let whole : (length (encode_lower inner) % 80 ≡ 0) ⊎ (encode_lower (encode_lower rest) ≡ []) =
    elim full [
      | inl batch ↦ inl (omega arith)
      | inr none ↦ inr (rw (none, encode_lower-nil, encode_lower-nil) refl)
    ] in
    rw (
      body_text-parts indentation (encode_lower inner) (encode_lower (encode_lower rest)) whole,
      ← encode_lower-append,
      all,
    ) refl

-- ---- the ciphertext

pub ciphertext_lines-nil : (indentation : List ℕ)
    → hexadecimal_lines indentation (encode_lower []) ≡ []
ciphertext_lines-nil indentation = rw (encode_lower-nil, encode_lower-nil, body_text-nil) refl

-- the lines of two texts, if the first fills whole lines or the second is empty
pub ciphertext_lines-parts : (indentation xs ys : List ℕ) → (length xs % 20 ≡ 0) ⊎ (ys ≡ [])
    → hexadecimal_lines indentation (encode_lower xs)
    ++ hexadecimal_lines indentation (encode_lower ys)
    ≡ hexadecimal_lines indentation (encode_lower (xs ++ ys))
ciphertext_lines-parts indentation xs ys (inl whole) =
    let digits = length-encode_lower xs in
    let twice = length-encode_lower (encode_lower xs) in
    simp encode_lower-append (body_text-parts indentation (encode_lower (encode_lower xs))
    (encode_lower (encode_lower ys)) (inl (omega arith)))
ciphertext_lines-parts indentation xs ys (inr none) =
    rw (none, ciphertext_lines-nil indentation, append-nil xs)
    (append-nil (hexadecimal_lines indentation (encode_lower xs)))

-- one more piece of the ciphertext
pub ciphertext_lines-next : (indentation ciphertext : List ℕ) (done end : ℕ)
    → done ≤ length ciphertext
    → done % 20 ≡ 0 → done ≤ end
    → hexadecimal_lines indentation (encode_lower (take done ciphertext))
    ++ hexadecimal_lines indentation (encode_lower (take (end - done) (drop done ciphertext)))
    ≡ hexadecimal_lines indentation (encode_lower (take end ciphertext))
ciphertext_lines-next indentation ciphertext done end inside whole forward =
    let prefix = length-take-le done ciphertext inside in
    rw (← take-until ciphertext done end forward)
    (ciphertext_lines-parts indentation (take done ciphertext) _ (inl (omega arith)))

-- the pieces so far, and the rest of the ciphertext
pub ciphertext_lines-rest : (indentation ciphertext : List ℕ) (end : ℕ)
    → end ≤ length ciphertext → end % 20 ≡ 0
    → hexadecimal_lines indentation (encode_lower (take end ciphertext))
    ++ hexadecimal_lines indentation (encode_lower (drop end ciphertext))
    ≡ hexadecimal_lines indentation (encode_lower ciphertext)
ciphertext_lines-rest indentation ciphertext end inside whole =
    let prefix = length-take-le end ciphertext inside in
    rw (
      ciphertext_lines-parts indentation (take end ciphertext) (drop end ciphertext)
          (inl (omega arith)),
      take-append-drop,
    ) refl

-- one more line
pub ciphertext_lines-line : (indentation ciphertext : List ℕ) (line end : ℕ)
    → line * 20 < length ciphertext
    → end ≡ min (length ciphertext) (line * 20 + 20)
    → hexadecimal_lines indentation (encode_lower (take (line * 20) ciphertext))
    ++ (indentation
    ++ encode_lower (encode_lower (take (end - line * 20) (drop (line * 20) ciphertext)))
    ++ 10 ∷ [])
    ≡ hexadecimal_lines indentation (encode_lower (take ((line + 1) * 20) ciphertext))
ciphertext_lines-line indentation ciphertext line end inside until =
    let prefix = take (line * 20) ciphertext in
    let piece = take (end - line * 20) (drop (line * 20) ciphertext) in
    let before = length-take-le (line * 20) ciphertext (omega arith) in
    let left = length-drop (line * 20) ciphertext in
    let size = length-take (end - line * 20) (drop (line * 20) ciphertext) in
    let digits : (xs : List ℕ) → length (encode_lower (encode_lower xs)) ≡ 4 * length xs =
    λ xs. rw (length-encode_lower (encode_lower xs), length-encode_lower xs) (omega arith) in
    let a = digits prefix in
    let b = digits piece in
    let to : end ≡ min ((line + 1) * 20) (length ciphertext) = omega arith in
    let joined = take-until ciphertext (line * 20) end (omega arith) in
    rw (
      body_text-line indentation (encode_lower (encode_lower prefix))
          (encode_lower (encode_lower piece)) (omega arith) (omega arith) (omega arith),
      ← encode_lower-append,
      ← encode_lower-append,
      joined,
      to,
      take_min,
    ) refl
