use Rattle.std.proofs.Common.{◌≡◌, nat_eq, Bool, true, false, Option, Some, None, Result, Ok, refl, subst, sym}
use Rattle.std.specs.Result.{IfOk}
use Rattle.std.specs.declared.alloc.AllocError.{AllocError}
use Rattle.std.proofs.lemmas.Result.{IfOk-at_ok, IfOk-weaker}
use Rattle.std.specs.HashSet.{contains}
use Rattle.ir_tree.specs.Rules.{Sound}
use Rattle.ir_tree.specs.declared.function.Function.{Function}
use Rattle.ir_flow.specs.OfFunction.{IsGraphOf}
use Rattle.fact_sources.specs.Apart.{IsApart}
use Rattle.ir_facts.specs.Settled.{settled}
use Rattle.ir_facts.specs.Settled.{or_same}
use Rattle.ir_facts.specs.Steps.{IsRound, IsStep, candidate_of}
use Rattle.ir_facts.proofs.SettledSound.{settled_sound}
use Rattle.ir_facts.proofs.Settling.{apart_settled, graph_settled}
use Rattle.ir_facts.proofs.Widths.{formed_wide}
use Rattle.ir_facts.proofs.rounds.round.Goals as goal

-- what is settled, where the answer is this
answered : (f : Function) (o p : Option Function) → o ≡ p → or_same f o ≡ settled f → or_same f p ≡ settled f
answered f o p e is = subst (λ (q : Option Function). or_same f q ≡ settled f) e is

-- a step of what is settled is a round
is_round : (f h g : Function) → h ≡ settled f → IsStep (candidate_of h) h g → IsRound f g
is_round f h g e step = subst (λ (k : Function). IsStep (candidate_of k) k g) e step

-- a step that is made anew, or is none
renewed_step : {changed : Bool} (h g : Function) (r : Result (Option Function) AllocError) → (changed ≡ true → r ≡ Ok (Some g)) → (changed ≡ false → (r ≡ Ok None) × (g ≡ h))
    → IfOk r (λ o. IsStep (candidate_of h) h (or_same h o)) → IsStep (candidate_of h) h g
renewed_step {changed = true} h g r new same step = IfOk-at_ok (λ (o : Option Function). IsStep (candidate_of h) h (or_same h o)) (new refl) step
renewed_step {changed = false} h g r new same step =
    subst (IsStep (candidate_of h) h) (sym (same refl).1) (IfOk-at_ok (λ (o : Option Function). IsStep (candidate_of h) h (or_same h o)) (same refl).0 step)

pub settled-requires : goal.settled-requires
settled-requires c = record { sized = formed_wide c.args.f.now c.requires.sound.formed }

pub forwarded-second-requires-clause-sound : goal.forwarded-second-requires-clause-sound
forwarded-second-requires-clause-sound c =
    subst Sound (sym (answered c.args.f.now c.in_ok-first.first (Some c.in-Some.h) c.in-Some.is c.in_ok-first.ensures)) (settled_sound c.args.f.now c.requires.sound)

pub forwarded-second-requires-clause-graph : goal.forwarded-second-requires-clause-graph
forwarded-second-requires-clause-graph c =
    subst (λ (h : Function). IsGraphOf h c.args.edges.now) (sym (answered c.args.f.now c.in_ok-first.first (Some c.in-Some.h) c.in-Some.is c.in_ok-first.ensures))
    (graph_settled c.args.f.now c.args.edges.now c.requires.graph)

pub forwarded-second-requires-clause-apart : goal.forwarded-second-requires-clause-apart
forwarded-second-requires-clause-apart c =
    let among = contains nat_eq c.args.outside.now in
    subst (λ (h : Function). IsApart h among) (sym (answered c.args.f.now c.in_ok-first.first (Some c.in-Some.h) c.in-Some.is c.in_ok-first.ensures))
    (apart_settled c.args.f.now among c.requires.apart)

pub returns-in-None : goal.returns-in-None
returns-in-None c =
    let f = c.args.f.now in
    IfOk-weaker c.forwarded.result (λ (o : Option Function). IsStep (candidate_of f) f (or_same f o)) (λ (o : Option Function). IsRound f (or_same f o))
    (λ o step. is_round f f (or_same f o) (answered f c.in_ok-first.first None c.in-None.is c.in_ok-first.ensures) step) c.forwarded.ensures

pub returns-in_ok-g-in-Some : goal.returns-in_ok-g-in-Some
returns-in_ok-g-in-Some c =
    let made = c.in_ok-g-in-Some.ensures in
    is_round c.args.f.now c.in-Some.h c.in_ok-g-in-Some.g (answered c.args.f.now c.in_ok-first.first (Some c.in-Some.h) c.in-Some.is c.in_ok-first.ensures)
    (renewed_step c.in-Some.h c.in_ok-g-in-Some.g c.forwarded-second.result made.new made.same c.forwarded-second.ensures)
