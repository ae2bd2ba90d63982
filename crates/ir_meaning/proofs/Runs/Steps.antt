-- Steps one after another, and steps above more waiting frames.
use Rattle.std.proofs.Common.{◌≡◌, ℕ, zero, suc, ◌+◌, List, [], ◌∷◌, ◌++◌, Option, Some, None, refl, sym, ap, ◌∙◌, subst, arith, append_assoc, append-nil}
use Rattle.ir_tree.specs.declared.function.Function.{Function}
use Rattle.ir_meaning.specs.Act.{Act, Goes, Calls, Gives, Breaks, act, resume}
use Rattle.ir_meaning.specs.Frame.{Frame}
use Rattle.ir_meaning.specs.Memory.{Memory}
use Rattle.ir_meaning.specs.Program.{Program, State, Next, On, Done, Broken, place_of, Took, back, go_in, advance, step, After, Leads}
use Rattle.ir_meaning.specs.declared.event.Event.{Event}
use Rattle.ir_meaning.specs.declared.fault.Place.{Place}
use Rattle.ir_meaning.specs.declared.value.Value.{Value}

-- the same state above more waiting frames
abbrev pub above : State → List Frame → State
above s rest = record { top = s.top; below = s.below ++ rest; memory = s.memory; place = s.place }

abbrev pub raise : List Frame → Next → Next
raise rest (On s) = On (above s rest)
raise rest (Done answer memory place) = back rest answer memory place
raise rest (Broken why) = Broken why

abbrev raise_step : List Frame → Took → Took
raise_step rest t = record { events = t.events; next = raise rest t.next }

go_in_raise : (at : Place) (code : Option Function) (arguments : List Value) (f : Frame) (below rest : List Frame)
    (memory : Memory) (place : ℕ) → go_in at code arguments (f ∷ (below ++ rest)) memory place ≡ raise rest
    (go_in at code arguments (f ∷ below) memory place)
go_in_raise at None arguments f below rest memory place = refl
go_in_raise at (Some g) arguments f below rest memory place = refl

advance_raise : (p : Program) (at : Place) (below rest : List Frame) (memory : Memory) (place : ℕ) (a : Act) →
    advance p at (below ++ rest) memory place a ≡ raise_step rest (advance p at below memory place a)
advance_raise p at below rest memory place (Goes frame memory' place' events) = refl
advance_raise p at below rest memory place (Calls callee arguments f) =
    ap (λ (n : Next). record { events = []; next = n }) (go_in_raise at (p.code callee) arguments f below rest memory place)
advance_raise p at [] rest memory place (Gives answer memory') = refl
advance_raise p at (b ∷ below) rest memory place (Gives answer memory') = refl
advance_raise p at below rest memory place (Breaks why) = refl

after_raise : (leads leads' : State → List Event → Next → Type 0) (k : ℕ) (rest : List Frame) →
    ((s : State) (events : List Event) (end : Next) → leads s events end → leads' (above s rest) events (raise rest end)) →
    ((s : State) → k ≡ 0 → leads' s [] (On s)) → (shown : List Event) (n : Next) (events : List Event) (end : Next) →
    After leads k shown n events end → After leads' k shown (raise rest n) events (raise rest end)
after_raise leads leads' k rest h stay shown (On s) events end a = (a.0, a.1, h s a.0 end a.2)
after_raise leads leads' k [] h stay shown (Done answer memory place) events end a = (a.0, a.1, ap (raise []) a.2)
after_raise leads leads' k (b ∷ rest) h stay shown (Done answer memory place) events end a =
    let s : State = record { top = resume b answer; below = rest; memory = memory; place = place } in
    let e : On s ≡ raise (b ∷ rest) end = sym (ap (raise (b ∷ rest)) a.2) in
    ([], a.1 ∙ sym (append-nil shown), subst (λ (x : Next). leads' s [] x) e (stay s a.0))
after_raise leads leads' k rest h stay shown (Broken why) events end a = (a.0, a.1, ap (raise rest) a.2)

stays : (p : Program) (input : List ℕ) (k : ℕ) (s : State) → k ≡ 0 → Leads p input k s [] (On s)
stays p input zero s e = (refl, refl)
stays p input (suc k) s e = absurd (omega arith)

-- what the steps of a state do, they do above more waiting frames
pub leads_raise : (p : Program) (input : List ℕ) (k : ℕ) (s : State) (events : List Event) (end : Next) (rest : List Frame) →
    Leads p input k s events end → Leads p input k (above s rest) events (raise rest end)
leads_raise p input zero s events end rest (a, b) = (a, ap (raise rest) b)
leads_raise p input (suc k) s events end rest (choice, a) =
    let e = advance_raise p (place_of s.top) s.below rest s.memory s.place (act p.signature input s.top s.memory s.place choice) in
    let t = step p input s choice in
    let up = after_raise (Leads p input k) (Leads p input k) k rest (λ s' es n. leads_raise p input k s' es n rest)
    (stays p input k) t.events t.next events end a in
    (choice, subst (λ (x : Took). After (Leads p input k) k x.events x.next events (raise rest end)) (sym e) up)

after_trans : (leads leads' : State → List Event → Next → Type 0) (j k : ℕ) (s' : State) (later : List Event) (end : Next) →
    ((s : State) (es : List Event) → leads s es (On s') → leads' s (es ++ later) end) →
    (shown : List Event) (n : Next) (events : List Event) → After leads j shown n events (On s') →
    After leads' k shown n (events ++ later) end
after_trans leads leads' j k s' later end h shown (On s) events a =
    (a.0 ++ later, ap (λ (l : List Event). l ++ later) a.1 ∙ append_assoc shown a.0 later, h s a.0 a.2)
after_trans leads leads' j k s' later end h shown (Done answer memory place) events a = absurd (cc (a.2))
after_trans leads leads' j k s' later end h shown (Broken why) events a = absurd (cc (a.2))

-- steps one after another
pub leads_trans : (p : Program) (input : List ℕ) (j k : ℕ) (s s' : State) (events later : List Event) (end : Next) →
    Leads p input j s events (On s') → Leads p input k s' later end → Leads p input (j + k) s (events ++ later) end
leads_trans p input zero k s s' events later end (a, b) l =
    let e : k ≡ 0 + k = omega arith in
    let same : s' ≡ s = cc b in
    let l' = subst (λ (x : State). Leads p input k x later end) same l in
    let l'' = subst (λ (j : ℕ). Leads p input j s later end) e l' in
    subst (λ (es : List Event). Leads p input (0 + k) s (es ++ later) end) (sym a) l''
leads_trans p input (suc j) k s s' events later end (choice, a) l =
    let e : suc (j + k) ≡ suc j + k = omega arith in
    let t = step p input s choice in
    let go = after_trans (Leads p input j) (Leads p input (j + k)) j (j + k) s' later end
    (λ x es m. leads_trans p input j k x s' es later end m l) t.events t.next events a in
    let all : Leads p input (suc (j + k)) s (events ++ later) end = (choice, go) in
    subst (λ (n : ℕ). Leads p input n s (events ++ later) end) e all

after_one : (leads : State → List Event → Next → Type 0) → ((s : State) → leads s [] (On s)) → (shown : List Event) (n : Next) →
    After leads 0 shown n shown n
after_one leads stay shown (On s) = ([], sym (append-nil shown), stay s)
after_one leads stay shown (Done answer memory place) = (refl, refl, refl)
after_one leads stay shown (Broken why) = (refl, refl, refl)

-- one step
pub one_step : (p : Program) (input : List ℕ) (s : State) (choice : ℕ) (t : Took) → step p input s choice ≡ t →
    Leads p input 1 s t.events t.next
one_step p input s choice t e = (
  choice,
  subst (λ (x : Took). After (Leads p input 0) 0 x.events x.next t.events t.next) (sym e)
      (after_one (Leads p input 0) (λ s'. stays p input 0 s' refl) t.events t.next),
)
