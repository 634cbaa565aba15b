use Rattle.std.proofs.Common.{◌≡◌, None, Some, refl, sym, ap, ◌∙◌}
use Rattle.vault_core.specs.TriedSecrets.{keys_of}
use Rattle.vault_aes.specs.Padding.{without_padding}
use Rattle.vault_core.specs.Unsealing.{unsealing}
use Rattle.vault_core.proofs.TriedSecretsLemmas.{found-none, found-some}
use Rattle.vault_core.proofs.unsealing.unseal.Goals as goal

pub returns-in_default-clause-unsealed : goal.returns-in_default-clause-unsealed
unfolding unsealing
returns-in_default-clause-unsealed c =
    let keys = sym c.in_default.is ∙ c.find_match-tried.ensures.keys in
    rw (found-none (keys_of c.args.payload) _ None keys refl) refl

pub returns-in-Some-decipher-clause-unsealed : goal.returns-in-Some-decipher-clause-unsealed
unfolding unsealing
returns-in-Some-decipher-clause-unsealed c =
    let payload = c.args.payload in
    let search = c.find_match-tried.ensures in
    let found = found-some (keys_of payload) _ (Some _) (sym c.in-Some.is ∙ search.keys) refl in
    let keys : c.in-Some.keys ≡ keys_of payload found.0 = cc (found.2) in
    let deciphered = rw (c.into_body-padded.ensures, keys) at c.decipher.ensures.deciphered in
    let some = ap without_padding (sym deciphered) ∙ sym c.in-Some-decipher.ensures.plaintext in
    rw (search.tried, found.1, some) refl

pub returns-in-None-clause-unsealed : goal.returns-in-None-clause-unsealed
unfolding unsealing
returns-in-None-clause-unsealed c =
    let payload = c.args.payload in
    let search = c.find_match-tried.ensures in
    let found = found-some (keys_of payload) _ (Some _) (sym c.in-Some.is ∙ search.keys) refl in
    let keys : c.in-Some.keys ≡ keys_of payload found.0 = cc (found.2) in
    let deciphered = rw (c.into_body-padded.ensures, keys) at c.decipher.ensures.deciphered in
    let none = ap without_padding (sym deciphered) ∙ sym c.in-None.ensures.plaintext in
    rw (found.1, none) refl
