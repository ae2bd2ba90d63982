-- Phis one after another: what is taken from the front on, and written from the end on.
use Rattle.std.proofs.Common.{◌≡◌, ℕ, zero, suc, ◌<◌, ◌≤◌, Bool, true, nat_eq, if◌then◌else◌, List, [], ◌∷◌, ◌++◌, take, drop, length, get_or, sym, ap, subst, ◌∙◌, eq-eqb, arith}
use Rattle.std.proofs.Math.Seq.{drop-cons}
use Rattle.ir_tree.specs.declared.operand.Symbol.{Symbol}
use Rattle.ir_meaning.specs.Frame.{Locals}
use Rattle.ir_meaning.specs.Memory.{Memory as MeantMemory}
use Rattle.ir_machine.specs.Meant.{meant}
use Rattle.ir_machine.specs.declared.memory.Memory.{Memory}
use Rattle.ir_machine.specs.declared.scalar.Scalar.{Scalar}
use Rattle.ir_interp.specs.Locals.{AreLocals, IsKnown, IsValid, register_at, source_meant}
use Rattle.ir_interp.specs.Phis.{AreEdgesKnown, ArePhisKnown, AreTaken, HaveRoom, edge_meant, phis_meant}
use Rattle.ir_interp.specs.declared.phis.Edge.{Edge}
use Rattle.ir_interp.specs.declared.phis.Phi.{Phi}
use Rattle.ir_interp.specs.declared.registers.Registers.{Registers}
use Rattle.ir_interp.proofs.Reading.{bound_locals}

-- ---- edges

-- the edge at which a search stops
pub edge_taken : (names : List Symbol) (locals : Locals) (from : ℕ) (es : List Edge) (k : ℕ) (d : Edge) → k < length es → (get_or es k d).from ≡ from →
    source_meant names locals (get_or es k d).source ≡ edge_meant names locals from (drop k es)
edge_taken names locals from es k d h e =
    let here : nat_eq (get_or es k d).from from ≡ true = eq-eqb (get_or es k d).from from e in
    ap (λ (b : Bool). if b then source_meant names locals (get_or es k d).source else edge_meant names locals from (drop (suc k) es)) (sym here)
    ∙ ap (λ (xs : List Edge). edge_meant names locals from xs) (sym (drop-cons es k d h))

pub edge_known : (names : List Symbol) (m : Memory) (memory : MeantMemory) (es : List Edge) (k : ℕ) (d : Edge) → AreEdgesKnown names m memory es → k < length es →
    IsKnown names m memory (get_or es k d).source
edge_known names m memory [] k d h l = absurd (omega (arith, l))
edge_known names m memory (e ∷ es) zero d h l = h.0
edge_known names m memory (e ∷ es) (suc k) d h l = edge_known names m memory es k d h.1 (omega (arith, l))

-- ---- what phis take

pub phi_known : (names : List Symbol) (m : Memory) (memory : MeantMemory) (ps : List Phi) (k : ℕ) (p : Phi) → ArePhisKnown names m memory ps → k < length ps → p ≡ get_or ps k p →
    AreEdgesKnown names m memory p.edges.items
phi_known names m memory [] k p h l is = absurd (omega (arith, l))
phi_known names m memory (q ∷ ps) zero p h l is = subst (λ (x : Phi). AreEdgesKnown names m memory x.edges.items) (sym is) h.0
phi_known names m memory (q ∷ ps) (suc k) p h l is = phi_known names m memory ps k p h.1 (omega (arith, l)) is

pub none_taken : (names : List Symbol) (m : Memory) (memory : MeantMemory) (locals : Locals) (from : ℕ) (ps : List Phi) → AreTaken names m memory locals from (take 0 ps) []
none_taken names m memory locals from [] = tt
none_taken names m memory locals from (p ∷ ps) = tt

pub taken_more : (names : List Symbol) (m : Memory) (memory : MeantMemory) (locals : Locals) (from : ℕ) (ps : List Phi) (k : ℕ) (p : Phi) (vs : List Scalar) (v : Scalar) →
    k < length ps → p ≡ get_or ps k p → AreTaken names m memory locals from (take k ps) vs → meant names v ≡ edge_meant names locals from p.edges.items → IsValid names m memory v →
    AreTaken names m memory locals from (take (suc k) ps) (vs ++ v ∷ [])
taken_more names m memory locals from [] k p vs v l is h e f = absurd (omega (arith, l))
taken_more names m memory locals from (q ∷ ps) zero p [] v l is h e f = (e ∙ ap (λ (x : Phi). edge_meant names locals from x.edges.items) is, f, none ps) where
  none : (xs : List Phi) → AreTaken names m memory locals from (take zero xs) []
  none [] = tt
  none (x ∷ xs) = tt
taken_more names m memory locals from (q ∷ ps) zero p (w ∷ vs) v l is h e f = absurd h
taken_more names m memory locals from (q ∷ ps) (suc k) p [] v l is h e f = absurd h
taken_more names m memory locals from (q ∷ ps) (suc k) p (w ∷ vs) v l is h e f =
    (h.0, h.1, taken_more names m memory locals from ps k p vs v (omega (arith, l)) is h.2 e f)

-- the last of them, and those before
pub taken_last : (names : List Symbol) (m : Memory) (memory : MeantMemory) (locals : Locals) (from : ℕ) (ps : List Phi) (p : Phi) (vs : List Scalar) (v : Scalar) →
    length vs < length ps → p ≡ get_or ps (length vs) p → AreTaken names m memory locals from (take (suc (length vs)) ps) (vs ++ v ∷ []) →
    AreTaken names m memory locals from (take (length vs) ps) vs × (meant names v ≡ edge_meant names locals from p.edges.items) × IsValid names m memory v
taken_last names m memory locals from [] p vs v l is h = absurd (omega (arith, l))
taken_last names m memory locals from (q ∷ ps) p [] v l is h = (tt, h.0 ∙ ap (λ (x : Phi). edge_meant names locals from x.edges.items) (sym is), h.1)
taken_last names m memory locals from (q ∷ ps) p (w ∷ vs) v l is h =
    let rest = taken_last names m memory locals from ps p vs v (omega (arith, l)) is h.2 in
    ((h.0, h.1, rest.0), rest.1, rest.2)

-- ---- room

pub none_room : (n : ℕ) (ps : List Phi) → HaveRoom n (take 0 ps)
none_room n [] = tt
none_room n (p ∷ ps) = tt

pub room_more : (n n' : ℕ) (ps : List Phi) (k : ℕ) (p : Phi) → n ≤ n' → k < length ps → p ≡ get_or ps k p → p.local < n' → HaveRoom n (take k ps) → HaveRoom n' (take (suc k) ps)
room_more n n' [] k p le l is at h = absurd (omega (arith, l))
room_more n n' (q ∷ ps) zero p le l is at h = (subst (λ (x : Phi). x.local < n') is at, none ps) where
  none : (xs : List Phi) → HaveRoom n' (take zero xs)
  none [] = tt
  none (x ∷ xs) = tt
room_more n n' (q ∷ ps) (suc k) p le l is at h = (omega (arith, le, h.0), room_more n n' ps k p le (omega (arith, l)) is at h.1)

pub room_at : (n : ℕ) (ps : List Phi) (k : ℕ) (p : Phi) → k < length ps → p ≡ get_or ps k p → HaveRoom n ps → p.local < n
room_at n [] k p l is h = absurd (omega (arith, l))
room_at n (q ∷ ps) zero p l is h = subst (λ (x : Phi). x.local < n) (sym is) h.0
room_at n (q ∷ ps) (suc k) p l is h = room_at n ps k p (omega (arith, l)) is h.1

-- ---- writing

pub phis_split : (names : List Symbol) (locals : Locals) (from : ℕ) (ps : List Phi) (k : ℕ) (p : Phi) (after : Locals) → k < length ps → p ≡ get_or ps k p →
    (p.local, edge_meant names locals from p.edges.items) ∷ phis_meant names locals from (drop (suc k) ps) after ≡ phis_meant names locals from (drop k ps) after
phis_split names locals from ps k p after l is =
    ap (λ (xs : List Phi). phis_meant names locals from xs after) (sym (drop-cons ps k p l ∙ ap (λ (x : Phi). x ∷ drop (suc k) ps) (sym is)))

pub phi_written : (names : List Symbol) (m : Memory) (memory : MeantMemory) (locals : Locals) (from : ℕ) (ps : List Phi) (k : ℕ) (p : Phi) (v : Scalar) (r r' : Registers) →
    k < length ps → p ≡ get_or ps k p → ((x : ℕ) → register_at r' x ≡ (if nat_eq p.local x then v else register_at r x)) →
    meant names v ≡ edge_meant names locals from p.edges.items → IsValid names m memory v →
    AreLocals names m memory r (phis_meant names locals from (drop (suc k) ps) locals) → AreLocals names m memory r' (phis_meant names locals from (drop k ps) locals)
phi_written names m memory locals from ps k p v r r' l is written e valid a =
    subst (λ (ls : Locals). AreLocals names m memory r' ls) (phis_split names locals from ps k p locals l is)
    (bound_locals names m memory r r' (phis_meant names locals from (drop (suc k) ps) locals) p.local v (edge_meant names locals from p.edges.items) written e valid a)
