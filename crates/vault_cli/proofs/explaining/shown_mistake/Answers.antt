use Rattle.std.proofs.Common.{◌≡◌, ◌==◌, ◌||◌, ℕ, true, not, arith, codes, get_or, refl}
use Rattle.std.proofs.lemmas.List.Elements.{All-from_get_or}
use Rattle.std.proofs.lemmas.List.Sums.{AllPass-from_list_all}
use Rattle.std.proofs.lemmas.Result.{IfOk-weaker}
use Rattle.vault_request.specs.Refusal.{is_control}
use Rattle.vault_cli.specs.Explained.{IsShown, IsShownText}
use Rattle.vault_cli.proofs.explaining.shown_mistake.Goals as goal

byte-shown : (byte : ℕ) → (byte == 10 || not (is_control byte)) ≡ true → IsShown byte
byte-shown byte passes = grind arith

line-shown : IsShownText (codes "error: the arguments are invalid\n")
line-shown =
    let line = codes "error: the arguments are invalid\n" in (
      omega arith,
      All-from_get_or IsShown line 0 (λ i short. byte-shown (get_or line i 0)
          (AllPass-from_list_all (λ byte. byte == 10 || not (is_control byte)) line refl i 0
          short)),
    )

pub returns : goal.returns
returns c =
    IfOk-weaker c.from_str.result _ _ (λ text is. rw is line-shown) c.from_str.ensures.ok
