-- The keys of a vault, each from a block of its own.
use Rattle.std.proofs.Common.{◌≡◌, ℕ, List, [], ◌++◌, length, take, drop, arith, ap, sym, ◌∙◌}
use Rattle.std.proofs.Common.{append_assoc, refl}
use Rattle.std.specs.Int.{div_ceil}
use Rattle.std.specs.List.{concat}
use Rattle.std.specs.Prelude.{slice_range}
use Rattle.std.proofs.lemmas.List.{drop_at, length-append, take-take, take_at}
use Rattle.vault_kdf.specs.Keys.{vault_keys}
use Rattle.vault_kdf.specs.Pbkdf2.{block, blocks, pbkdf2}
use Rattle.vault_kdf.proofs.Pbkdf2Lemmas.{blocks_from, length-block, take_past}

-- n bytes of the blocks from an index on
abbrev pub bytes_from : List ℕ → List ℕ → ℕ → ℕ → List ℕ
bytes_from password salt first n =
    take n (concat (blocks_from password salt 10000 first (div_ceil n 32)))

-- 80 bytes of three blocks, cut into keys
cut_keys : (a b c : List ℕ) → length a ≡ 32 → length b ≡ 32
    → let bytes = take 80 (a ++ (b ++ (c ++ []))) in
    (slice_range bytes 0 32 ≡ take 32 (a ++ [])) × (slice_range bytes 32 64 ≡ take 32 (b ++ []))
    × (slice_range bytes 64 80 ≡ take 16 (c ++ []))
cut_keys a b c len_a len_b =
    let last : List ℕ = take 16 (c ++ []) in
    let bytes : take 80 (a ++ (b ++ (c ++ []))) ≡ a ++ (b ++ last) =
    take_past 80 32 48 a (b ++ (c ++ [])) len_a (omega arith)
    ∙ ap (λ (rest : List ℕ). a ++ rest) (take_past 48 32 16 b (c ++ []) len_b (omega arith)) in
    let past : drop 64 (a ++ (b ++ last)) ≡ last =
    ap (drop 64) (sym (append_assoc a b last))
    ∙ drop_at (a ++ b) last 64 (omega (arith, length-append a b)) in
    rw bytes (
      take_at a (b ++ last) 32 len_a ∙ sym (take_at a [] 32 len_a),
      ap (take 32) (drop_at a (b ++ last) 32 len_a) ∙ take_at b last 32 len_b
          ∙ sym (take_at b [] 32 len_b),
      ap (take 16) past ∙ take-take 16 16 (c ++ []) (omega arith),
    )

pub vault_keys-blocks : (password salt : List ℕ)
    → vault_keys password salt ≡ record {
      cipher = bytes_from password salt 1 32;
      mac = bytes_from password salt 2 32;
      iv = bytes_from password salt 3 16;
    }
unfolding vault_keys pbkdf2 blocks
vault_keys-blocks password salt =
    let (cipher, mac, iv) = cut_keys
    (block password salt 10000 1) (block password salt 10000 2) (block password salt 10000 3)
    (length-block password salt 10000 1 (omega arith))
    (length-block password salt 10000 2 (omega arith)) in
    rw (cipher, mac, iv) refl
