-- The first line of a block, and what comes before the body of an envelope.
use Rattle.std.proofs.Common.{◌≡◌, ◌⊎◌, ℕ, List, [], ◌∷◌, ◌++◌, length}
use Rattle.std.proofs.Common.{append_assoc, Bor, Option, Some, None, unwrap_or, refl}
use Rattle.std.specs.Option.{option_copied}
use Rattle.hex.specs.Hex.{encode_lower}
use Rattle.vault_text.specs.Block.{block, block_indentation, first_line}
use Rattle.vault_text.specs.Written.{hexadecimal_lines, inner_text, text_of_lines}
use Rattle.vault_text.specs.Written.{written_header, written_lines}
use Rattle.vault_text.proofs.WrittenLemmas.{body_text-split, text_of_lines-cons}

-- the value behind a reference, or behind another if there is none
pub copied-or : {T : Type 0} (found : Option (Bor T)) (other : Bor T)
    → (unwrap_or found other).now ≡ unwrap_or (option_copied found) other.now
copied-or None other = refl
copied-or (Some x) other = refl

-- the name, what follows it on the first line, and the lines of the envelope
pub block-parts : (name : Option (List ℕ)) (start label salt tag ciphertext : List ℕ)
    → unwrap_or name [] ++ start ≡ first_line (unwrap_or name [])
    → unwrap_or name []
    ++ (start ++ text_of_lines block_indentation (written_lines label salt tag ciphertext))
    ≡ block name label salt tag ciphertext
unfolding block
block-parts name start label salt tag ciphertext first =
    rw (← append_assoc, first) refl

-- what comes before the body, its first lines, and the lines of the ciphertext that is left
pub opening-parts : (start indentation label salt tag ciphertext inner left head digits opening
    : List ℕ)
    → head ≡ start ++ text_of_lines indentation (written_header label ∷ [])
    → opening ≡ head ++ hexadecimal_lines indentation digits → digits ≡ inner
    → inner ++ encode_lower left ≡ inner_text salt tag ciphertext
    → (length inner ≡ 600) ⊎ (left ≡ [])
    → opening ++ hexadecimal_lines indentation (encode_lower left)
    ≡ start ++ text_of_lines indentation (written_lines label salt tag ciphertext)
opening-parts start indentation label salt tag ciphertext inner left head digits opening begins
    goes_on same all full =
    rw (goes_on, same, begins) (simp (
      append_assoc,
      body_text-split indentation salt tag ciphertext inner left all full,
    ) (rw text_of_lines-cons refl))
