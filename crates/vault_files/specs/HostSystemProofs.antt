-- System calls that follow one another.
use Rattle.std.specs.Prelude.{List, [], ◌++◌}
use Rattle.std.proofs.Common.{◌∙◌, sym, ap, append_assoc, append-nil}
use Rattle.vault_files.specs.HostCall.{HostCalls}
use Rattle.vault_files.specs.HostSystem.{Executed, MakeUpAll}
use Rattle.vault_files.specs.HostSystem.MakeUpAll.{no_calls, calls}
use Rattle.vault_files.specs.System.{SystemCall}

MakeUpAll-more : (made more : HostCalls) (xs ys : List SystemCall)
    → MakeUpAll made xs → MakeUpAll more ys → MakeUpAll (made ++ more) (xs ++ ys)
MakeUpAll-more _ more _ ys no_calls q = q
MakeUpAll-more _ more _ ys (calls some rest call others p ps) q =
    rw (append_assoc some rest more)
    (calls some (rest ++ more) call (others ++ ys) p (MakeUpAll-more rest more others ys ps q))

pub Executed-none : (s : HostCalls) → Executed s [] s
Executed-none s = record { made = []; noted = sym (append-nil s); make_up = no_calls }

pub Executed-more : (s t u : HostCalls) (xs ys : List SystemCall)
    → Executed s xs t → Executed t ys u → Executed s (xs ++ ys) u
Executed-more s t u xs ys p q = record {
  made = p.made ++ q.made;
  noted = q.noted ∙ ap (λ z. z ++ q.made) p.noted ∙ append_assoc s p.made q.made;
  make_up = MakeUpAll-more p.made q.made xs ys p.make_up q.make_up;
}
