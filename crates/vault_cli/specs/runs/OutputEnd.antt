-- What happened to an output.
use Rattle.std.specs.Prelude.{◌≡◌, ℕ, List, take}
use Rattle.vault_text.specs.Failures.{HasRisen}
use Rattle.vault_text.specs.declared.sink.Stage.TheVariants.{Finished}
use Rattle.vault_cli.specs.Call.{SinkCall}

-- it was left alone; it received these bytes and was finished; or it failed, and took only the
-- first of these bytes
pub record OutputEnd : Type 1 where
  pub untouched : Type 0
  pub received : List ℕ → Type 0
  pub cut : List ℕ → Type 0

-- what happened to a sink
abbrev pub to_sink : {K : Type 0} → SinkCall K → OutputEnd
to_sink out = record {
  untouched = out.new ≡ out.old;
  received = λ bytes. out.takes out.old bytes out.new × (out.stage out.new ≡ Finished)
      × (out.failures out.new ≡ out.failures out.old);
  cut = λ bytes. (count : ℕ) × out.takes out.old (take count bytes) out.new
      × HasRisen (out.failures out.old) (out.failures out.new);
}
