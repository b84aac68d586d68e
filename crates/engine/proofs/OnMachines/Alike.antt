-- Two machines that move, arm and judge alike come to the same. Assumes nothing.
use mathlib.Core.Path.{◌≡◌, refl, ap, ◌∙◌}
use mathlib.Core.Bool.{Bool, true, false, not, cond}
use mathlib.Core.Option.{Option, none, some}
use mathlib.Core.List.{List, [], ◌∷◌, ◌++◌, map}
use Prim.Native.Nat.{ℕ, zero, suc, ◌+◌, ◌<◌}
use Rattle.condition.specs.Meaning.{Environment, environment}
use Rattle.sheet.specs.Log.{Event}
use Rattle.step.specs.Lists.{first, keep, least}
use Rattle.step.specs.Meets.{meets}
use Rattle.step.specs.Moves.{Configuration, moved}
use Rattle.step.specs.Calls.{is_entry, entry_for, refusals}
use Rattle.step.specs.Verdicts.{verdict}
use Rattle.step.specs.Runs.{Offered, Ran, offered, unless_judged, unless_refused_at, run_from}
use Rattle.step.proofs.OnLists.Keeping.{keep_same}
use Rattle.step.proofs.OnEvents.Refusing.{free}
use Rattle.engine.specs.Machine.{Machine, Armed, State, arming, fresh, fails, failing, of_number, entered, exited, refusal, offer, run}

-- The same start, moves and judging; the same numbers armed at an entry, in a state and for a unit that are declared: an exit arms none, whatever `arming` says.
pub record Alike (M N : Machine) : Type 0 where
  pub units : M.common.units ≡ N.common.units
  pub programs : M.common.programs ≡ N.common.programs
  pub bad : M.common.bad ≡ N.common.bad
  pub start : M.common.start ≡ N.common.start
  pub initial : M.common.initial ≡ N.common.initial
  pub moves : (k : Configuration) (e : Event) → moved M.common M.transitions k e ≡ moved N.common N.transitions k e
  pub arms : (k : Configuration) (e : Event) → is_entry e ≡ true → k.main < N.common.states → e.unit < N.common.units → arming M k e ≡ arming N k e
  pub judges : (i : ℕ) (E : Environment) → meets M.common (M.postcondition i) E ≡ meets N.common (N.postcondition i) E

module _ {M N : Machine} (a : Alike M N) where
  pub fresh_alike : fresh M ≡ fresh N
  unfolding fresh
  fresh_alike = λ i. record { configuration = record { main = a.start i; variables = a.initial i }; calls = []; position = 0; verdict = none }

  module _ (σ : State) (e : Event) where
    abbrev k : Configuration
    k = σ.configuration

    refusal_alike : refusal M σ e ≡ refusal N σ e
    unfolding refusal refusals
    refusal_alike = rw (a.units, a.programs)

    failing_alike : (o : Option Armed) → failing M σ.configuration e o ≡ failing N σ.configuration e o
    unfolding fails
    failing_alike none = refl
    failing_alike (some b) = ap least (keep_same (fails M k e b.call) (fails N k e b.call) b.armed (λ i m. ap not (a.judges i (environment e.values k.variables b.call.kept))))

    entered_alike : arming M σ.configuration e ≡ arming N σ.configuration e → entered M σ e ≡ entered N σ e
    unfolding entered
    entered_alike arms =
        let to = a.moves k e in
        λ i. record {
          configuration = to i;
          calls = σ.calls ++ record { call = record { number = e.number; unit = e.unit; entry = σ.position + 1; kept = e.values }; armed = arms i } ∷ [];
          position = σ.position + 1;
          verdict = verdict (a.bad i) (σ.position + 1) (to i).main none 0;
        }

    exited_alike : exited M σ e ≡ exited N σ e
    unfolding exited
    exited_alike =
        let to = a.moves k e in
        let low = failing_alike (first (of_number e.number) σ.calls) in
        λ i. record { configuration = to i; calls = keep (λ b. not (of_number e.number b)) σ.calls; position = σ.position + 1; verdict = verdict (a.bad i) (σ.position + 1) (to i).main (low i) (entry_for e.number (map (λ b. b.call) σ.calls)) }

    -- One event, in a state that is declared; an entry that is not refused is of a unit that is.
    pub offer_alike : σ.configuration.main < N.common.states → offer M σ e ≡ offer N σ e
    unfolding offer refusal
    offer_alike main = ap (λ n. offered n σ (cond (is_entry e) (entered M σ e) (exited M σ e))) refusal_alike ∙ go (refusal N σ e) refl (is_entry e) refl
      where
        go : (n : ℕ) → refusal N σ e ≡ n → (b : Bool) → is_entry e ≡ b → offered n σ (cond b (entered M σ e) (exited M σ e)) ≡ offered n σ (cond b (entered N σ e) (exited N σ e))
        go zero z true y = ap (offered 0 σ) (entered_alike (a.arms k e y main (free N.common _ _ _ e z).unit))
        go zero z false y = ap (offered 0 σ) exited_alike
        go (suc n) z b y = refl

  -- A run, where what holds at first is kept at every event and says that the state is declared.
  module _ (I : State → Type 0) (declared : (σ : State) → I σ → σ.configuration.main < N.common.states) (kept : (σ : State) (e : Event) → I σ → I (offer N σ e).state) where
    from_alike : (es : List Event) (i : ℕ) (σ : State) → I σ → run_from (offer M) (λ σ. σ.verdict) i σ es ≡ run_from (offer N) (λ σ. σ.verdict) i σ es
    unfolding run_from
    from_alike [] i σ h = refl
    from_alike (e ∷ es) i σ h =
        let o = offer N σ e in
        ap (λ (x : Offered State). unless_refused_at x.answer i (unless_judged x.state.verdict (run_from (offer M) (λ σ. σ.verdict) (suc i) x.state es))) (offer_alike σ e (declared σ h))
        ∙ ap (λ (r : Ran State). unless_refused_at o.answer i (unless_judged o.state.verdict r)) (from_alike es (suc i) o.state (kept σ e h))

    pub run_alike : I (fresh N) → (es : List Event) → run M es ≡ run N es
    unfolding run
    run_alike h es = ap (λ (σ : State). run_from (offer M) (λ σ. σ.verdict) 1 σ es) fresh_alike ∙ from_alike es 1 (fresh N) h
