use Rattle.std.proofs.Common.{◌+◌, ◌++◌, [], arith, rules, refl, inl, inr, append_assoc, ◌∙◌}
use Rattle.std.proofs.Common.{◌<◌, ℕ, ap, length, length-append}
use Rattle.std.proofs.lemmas.Bool.{cases_lt}
use Rattle.std.proofs.lemmas.Grind.{common_steps}
use Rattle.std.proofs.lemmas.List.{append-nil, take_rest}
use Rattle.vault_text.specs.Failures.{u64_max}
use Rattle.vault_text.proofs.ListLemmas.{piece_after}
use Rattle.vault_text.proofs.WrittenLemmas.{ciphertext_lines-nil, ciphertext_lines-next}
use Rattle.vault_text.proofs.WrittenLemmas.{ciphertext_lines-rest}
use Rattle.vault_text.proofs.SinkLemmas.{prefix_first, prefix_second, takes_second}
use Rattle.vault_text.proofs.writing.body.put_ciphertext.Goals as goal

pub loop-done-init : goal.loop-done-init
loop-done-init g c = (
  omega arith,
  refl,
  c.requires.opening,
  c.requires.begun,
  refl,
  inl c.requires.some,
  (
    [],
    g.met.K.Sink.takes_none c.args.sink.now,
    rw (ciphertext_lines-nil c.args.indentation.now, append-nil c.args.text.now.items) refl,
  ),
)

pub loop-done-preserved : goal.loop-done-preserved
loop-done-preserved g c =
    let l = c.loop-done in
    let next =
    ciphertext_lines-next c.args.indentation.now c.args.ciphertext.now l.done (l.done + 4060)
    l.invariant.0 (omega arith) (omega arith) in
    let piece = c.as_slice.ensures.value ∙ c.append_ciphertext.ensures in
    let size = ap length piece in
    let full = c.in_ok-put_all.ensures.full in
    let below : g.K.Sink.failures l.sink < u64_max =
    elim l.invariant.5 [
      | inl some ↦
          elim (cases_lt (g.K.Sink.failures l.sink) u64_max) [
            | inl counted ↦ counted
            | inr past ↦
                let failed = full past (omega (arith, size, some, length-append {A = ℕ})) in
                absurd cc
          ]
      | inr counted ↦ counted
    ] in
    let taken = l.invariant.6.0 in (
      omega arith,
      omega arith,
      search rules,
      search rules,
      search rules,
      inr (rw c.in_ok-put_all.ensures.failed below),
      (
        taken ++ c.as_slice.result.now,
        g.met.K.Sink.takes_more _ _ _ taken _ l.invariant.6.1 c.in_ok-put_all.ensures.takes,
        rw (c.clear.ensures, append-nil) (piece_after taken _ _ _ _ _ _ l.invariant.6.2 piece next),
      ),
    )

pub returns-in_err-put_all-clause-prefix : goal.returns-in_err-put_all-clause-prefix
returns-in_err-put_all-clause-prefix g c =
    let l = c.loop-done in
    let next =
    ciphertext_lines-next c.args.indentation.now c.args.ciphertext.now l.done (l.done + 4060)
    l.invariant.0 (omega arith) (omega arith) in
    let rest = ciphertext_lines-rest c.args.indentation.now c.args.ciphertext.now (l.done + 4060)
    (omega arith) (omega arith) in
    let piece = c.as_slice.ensures.value ∙ c.append_ciphertext.ensures in
    let taken = piece_after l.invariant.6.0 _ _ _ _ _ _ l.invariant.6.2 piece next in
    prefix_first g.K.Sink.takes _ _ _ _ _
    (append_assoc c.args.text.now.items _ _ ∙ ap (λ lines. c.args.text.now.items ++ lines) rest)
    (prefix_second g.K.Sink.takes g.met.K.Sink.takes_more _ _ _ _ _ _ taken l.invariant.6.1
    c.put_all.ensures.prefix)

pub returns : goal.returns
returns g c =
    let l = c.loop-done in
    let rest =
    ciphertext_lines-rest c.args.indentation.now c.args.ciphertext.now l.done l.invariant.0
    (omega arith) in
    let piece = rw take_rest at (c.as_slice-2.ensures.value ∙ c.append_ciphertext-2.ensures) in
    let whole = piece_after l.invariant.6.0 _ _ _ _ _ _ l.invariant.6.2 piece rest in
    let both = takes_second g.K.Sink.takes g.met.K.Sink.takes_more _ _ _ c.put_all-2.result _ _ _
    whole l.invariant.6.1 c.put_all-2.ensures.takes c.put_all-2.ensures.prefix in
    record {
      takes = both.0;
      prefix = both.1;
      stage = search rules;
      failed = grind (arith, common_steps);
      full = grind (arith, common_steps);
    }
