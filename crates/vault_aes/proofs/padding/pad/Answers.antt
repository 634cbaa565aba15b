use Rattle.std.proofs.Common.{◌≡◌, ◌+◌, ◌-◌, ◌%◌, ◌++◌, ◌∙◌, arith, drop, length, length-drop}
use Rattle.std.proofs.Common.{length-take, length-take-le, take}
use Rattle.std.proofs.lemmas.Slice.{drop-put_mid, take-put_mid}
use Rattle.vault_aes.specs.Padding.{padded}
use Rattle.vault_aes.proofs.padding.pad.Goals as goal

pub returns : goal.returns
unfolding padded
returns c =
    let n = c.args.n in
    let work = c.args.work.now in
    let end = n + (16 - n % 16) in
    let room : length (take (end - n) (drop n work)) ≡ 16 - n % 16 =
    simp (length-take, length-drop) (omega arith) in
    let prefix = length-take-le n work (omega arith) in
    let filled = rw room at (c.fill.ensures.after (λ y same. same)) in
    record {
      len = omega arith;
      padded =
          take-put_mid n (end - n) work c.fill.new.self end
          (omega (arith, c.fill.ensures.len, room)) (omega arith)
          ∙ rw prefix (λ i. take n work ++ filled i);
      rest =
          drop-put_mid n (end - n) work c.fill.new.self end (omega arith) (omega arith)
          (c.fill.ensures.len ∙ room ∙ omega arith);
    }
