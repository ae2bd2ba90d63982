-- On each edge the new phis take the slots' values.
use Rattle.std.proofs.Common.{◌≡◌, ℕ, zero, suc, ◌+◌, ◌≤◌, ◌<◌, nat_eq, Bool, true, false, not, List, [], ◌∷◌, ◌++◌, length, Option, Some, None, ◌⊎◌, inl, inr, refl, sym, ◌∙◌, ap, subst, arith, if◌then◌else◌}
use Rattle.std.specs.Prelude.{slice_get}
use Rattle.std.proofs.lemmas.Bool.{eq-eqb, eqb-true, ne_eqb, or_cases, or_left, or_right}
use Rattle.ir_tree.specs.Flow.{Among, edges, holds, room}
use Rattle.ir_tree.specs.Formed.{Distinct}
use Rattle.ir_tree.specs.declared.block.Block.{Block}
use Rattle.ir_tree.specs.declared.function.Function.{Function}
use Rattle.ir_tree.specs.declared.instr.Phi.{Phi}
use Rattle.ir_meaning.specs.Facts.{edge_operand, is_phi, phi_operand}
use Rattle.ir_meaning.specs.Promote.{AreNew}
use Rattle.ir_flow.proofs.Reaching.{edge-from}
use Rattle.ir_meaning.proofs.Counting.{numbers_in, place_is}
use Rattle.slot_promote.specs.Promoted.{End, end_at, end_with, entries_of, first_at, first_phi, free, new_phis, phis_from, takes}
use Rattle.slot_promote.specs.Values.{placed}
use Rattle.promotable_slots.specs.declared.slots.Slot.{Slot}
use Rattle.ir_tree.specs.Rules.{place}

-- ---- numbers

pub has_room : (xs : List ℕ) (x : ℕ) → holds xs x ≡ true → x < room xs
has_room [] x h = absurd cc
has_room (y ∷ ys) x h = by (or_cases (nat_eq x y) (holds ys x) h) (has_room ys x)
  where
    by : (nat_eq x y ≡ true) ⊎ (holds ys x ≡ true) → (holds ys x ≡ true → x < room ys) → x < room (y ∷ ys)
    by (inl e) more = let same : x ≡ y = eqb-true x y e in omega (arith, same)
    by (inr h) more = let lt : x < room ys = more h in omega (arith, lt)

pub free_above : (e : ℕ → List ℕ) (k n b : ℕ) → n ≤ free e k n b
free_above e k n zero = omega arith
free_above e k n (suc b) = by (takes b (e b)) (free_above e k n b)
  where
    by : (t : Bool) → n ≤ free e k n b → n ≤ (if t then free e k n b + k else free e k n b)
    by true h = omega (arith, h)
    by false h = h

pub first_above : (e : ℕ → List ℕ) (k n b m : ℕ) → first_phi e k n b ≡ Some m → n ≤ m
first_above e k n b m is = by (takes b (e b)) is
  where
    by : (t : Bool) → (if t then Some (free e k n b) else None) ≡ Some m → n ≤ m
    by true h = let same : free e k n b ≡ m = cc h in let le : n ≤ free e k n b = free_above e k n b in omega (arith, same, le)
    by false h = absurd cc

-- a block other than the entry to which an edge leads takes the values by phis
pub takes_there : (q b : ℕ) (es : List ℕ) → Among b es → (q ≡ 0 → ⊥) → takes q es ≡ true
takes_there q b [] h other = absurd h
takes_there q b (e ∷ es) h other = ap not (ne_eqb q 0 other)

-- ---- phis

pub phis_new : (keeps : ℕ → Bool) (ends : ℕ → End) (from : List ℕ) (n m : ℕ) (ss : List Slot) → ((z : ℕ) → n ≤ z → keeps z ≡ false) → n ≤ m → AreNew keeps (phis_from ends from m ss)
phis_new keeps ends from n m [] above le = tt
phis_new keeps ends from n m (s ∷ ss) above le = (above m le, phis_new keeps ends from n (suc m) ss above (omega (arith, le)))

pub news_new : (keeps : ℕ → Bool) (ends : ℕ → End) (from : List ℕ) (n : ℕ) (o : Option ℕ) (ss : List Slot) → ((z : ℕ) → n ≤ z → keeps z ≡ false) → ((m : ℕ) → o ≡ Some m → n ≤ m) → AreNew keeps (new_phis ends from o ss)
news_new keeps ends from n None ss above le = tt
news_new keeps ends from n (Some m) ss above le = phis_new keeps ends from n m ss above (le m refl)

-- the phi of the slot of the rank i has the number i behind the first
pub phi_there : (ends : ℕ → End) (from : List ℕ) (k i : ℕ) (ss : List Slot) (s : Slot) (ps : List Phi) → slice_get ss i ≡ Some s → is_phi (k + i) (phis_from ends from k ss ++ ps) ≡ true
phi_there ends from k i [] s ps found = absurd cc
phi_there ends from k zero (x ∷ ss) s ps found = or_left (nat_eq k (k + 0)) (is_phi (k + 0) (phis_from ends from (suc k) ss ++ ps)) (eq-eqb k (k + 0) (omega arith))
phi_there ends from k (suc i) (x ∷ ss) s ps found =
    or_right (nat_eq k (k + suc i)) (is_phi (k + suc i) (phis_from ends from (suc k) ss ++ ps))
    (subst (λ (v : ℕ). is_phi v (phis_from ends from (suc k) ss ++ ps) ≡ true) (omega arith) (phi_there ends from (suc k) i ss s ps found))

pub phi_takes : (ends : ℕ → End) (from : List ℕ) (k i b : ℕ) (ss : List Slot) (s : Slot) (ps : List Phi) → slice_get ss i ≡ Some s
    → phi_operand (k + i) b (phis_from ends from k ss ++ ps) ≡ edge_operand b (entries_of ends s.local from)
phi_takes ends from k i b [] s ps found = absurd cc
phi_takes ends from k zero b (x ∷ ss) s ps found =
    let same : x ≡ s = cc found in
    ap (λ (t : Bool). if t then edge_operand b (entries_of ends x.local from) else phi_operand (k + 0) b (phis_from ends from (suc k) ss ++ ps)) (eq-eqb k (k + 0) (omega arith))
    ∙ ap (λ (y : Slot). edge_operand b (entries_of ends y.local from)) same
phi_takes ends from k (suc i) b (x ∷ ss) s ps found =
    ap (λ (t : Bool). if t then edge_operand b (entries_of ends x.local from) else phi_operand (k + suc i) b (phis_from ends from (suc k) ss ++ ps)) (ne_eqb k (k + suc i) (λ e. omega (arith, e)))
    ∙ ap (λ (v : ℕ). phi_operand v b (phis_from ends from (suc k) ss ++ ps)) (omega arith)
    ∙ phi_takes ends from (suc k) i b ss s ps found

-- the entry of a predecessor has the slot's value at its end
pub entry_found : (ends : ℕ → End) (x b : ℕ) (from : List ℕ) → Among b from → ((p : ℕ) → Among p from → (ends p).number ≡ (ends b).number → p ≡ b)
    → edge_operand (ends b).number (entries_of ends x from) ≡ Some ((ends b).values x)
entry_found ends x b [] h only = absurd h
entry_found ends x b (p ∷ from) h only = by (nat_eq (ends p).number (ends b).number) refl h (λ g. entry_found ends x b from g (λ q among. only q (inr among)))
  where
    by : (t : Bool) → nat_eq (ends p).number (ends b).number ≡ t → Among b (p ∷ from) → (Among b from → edge_operand (ends b).number (entries_of ends x from) ≡ Some ((ends b).values x))
        → (if t then Some ((ends p).values x) else edge_operand (ends b).number (entries_of ends x from)) ≡ Some ((ends b).values x)
    by true is g more = ap (λ (q : ℕ). Some ((ends q).values x)) (only p (inl refl) (eqb-true (ends p).number (ends b).number is))
    by false is (inl e) more =
        let same : nat_eq (ends p).number (ends b).number ≡ true = eq-eqb (ends p).number (ends b).number (ap (λ (q : ℕ). (ends q).number) (sym e)) in
        let both : true ≡ false = sym same ∙ is in
        absurd (cc both)
    by false is (inr g) more = more g

none_there : (p : ℕ) (bs : List Block) → slice_get bs p ≡ None → p < length bs → ⊥
none_there p [] is lt = omega (arith, lt)
none_there zero (b ∷ bs) is lt = cc
none_there (suc p) (b ∷ bs) is lt = none_there p bs is (omega (arith, lt))

-- ---- ends of blocks

module _ (f : Function) (ss : List Slot) (n : ℕ) (d : Distinct (numbers_in f.blocks)) where
  pub end_number : (b : ℕ) (block : Block) → slice_get f.blocks b ≡ Some block → (end_at f ss n b).number ≡ block.number
  end_number b block found = ap (λ (o : Option Block). (end_with (placed 0 ss) (first_at f ss n b) o).number) found

  there : (p : ℕ) (o : Option Block) → slice_get f.blocks p ≡ o → p < length f.blocks → (c : Block) × (slice_get f.blocks p ≡ Some c)
  there p None is lt = absurd (none_there p f.blocks is lt)
  there p (Some c) is lt = (c, is)

  -- predecessors that end under one number are one
  pub one_end : (b q p : ℕ) (block : Block) → slice_get f.blocks b ≡ Some block → Among p (edges f q) → (end_at f ss n p).number ≡ (end_at f ss n b).number → p ≡ b
  one_end b q p block found among same =
      let c : (c : Block) × (slice_get f.blocks p ≡ Some c) = there p (slice_get f.blocks p) refl (edge-from f q p among) in
      let numbers_same : c.0.number ≡ block.number = sym (end_number p c.0 c.1) ∙ same ∙ end_number b block found in
      sym (place_is f.blocks d p c.0 c.1) ∙ ap (place f.blocks) numbers_same ∙ place_is f.blocks d b block found
