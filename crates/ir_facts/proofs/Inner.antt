-- Where candidates stand, and which locals are inner.
use Rattle.std.proofs.Common.{◌≡◌, ℕ, zero, suc, ◌+◌, ◌==◌, ◌⊎◌, inl, inr, Bool, true, false, List, [], ◌∷◌, Option, Some, None, refl, sym, ◌∙◌, ap, if◌then◌else◌, arith}
use Rattle.std.specs.Prelude.{slice_get, not}
use Rattle.std.proofs.lemmas.Bool.{and_from, eq-eqb, false≢true, or_left, or_right}
use Rattle.ir_tree.specs.Flow.{definitions, holds}
use Rattle.ir_tree.specs.declared.block.Block.{Block}
use Rattle.ir_tree.specs.declared.operand.Operand.{Operand}
use Rattle.ir_tree.specs.declared.operand.Operand.TheVariants.{Local}
use Rattle.ir_meaning.specs.Facts.{Facts, Has}
use Rattle.ir_edit.specs.Numbered.{later_or}
use Rattle.ir_edit.specs.Substituted.{replacement}
use Rattle.fact_sources.specs.Apart.{defined, is_listed}
use Rattle.ir_facts.specs.Candidates.{block_candidates, blocks_candidates}
use Rattle.ir_facts.specs.Clear.{all_inner, all_over, any_among, inner_keys, is_over, keys_among}
use Rattle.fact_sources.specs.Membership.{beside, is_member}
use Rattle.ir_facts.proofs.Matching.{KeysIn}
use Rattle.ir_facts.proofs.OneFunction.{one_of}
use Rattle.fact_sources.proofs.Outside.{listed_left, listed_right}
use Rattle.fact_sources.proofs.Neither.{neither}

-- ---- a fact's local is a key

none_first : (o w : Option Operand) → later_or o w ≡ None → o ≡ None
none_first None w n = refl
none_first (Some k) w n = n

has_key : (fs : Facts) (x : ℕ) (v : Operand) → Has fs x v → replacement fs x ≡ None → ⊥
has_key [] x v h n = h
has_key ((y, u) ∷ fs) x v (inl e) n =
    let last : (if y == x then Some u else None) ≡ None = by (replacement fs x) n in
    let some : ◌≡◌ {A = Option Operand} (Some u) None = ap (λ (b : Bool). if b then Some u else None) (sym (eq-eqb y x e.0)) ∙ last in
    absurd (cc some)
  where
    by : (o : Option Operand) → later_or o (if y == x then Some u else None) ≡ None → (if y == x then Some u else None) ≡ None
    by None n' = n'
    by (Some w) n' = absurd (cc n')
has_key ((y, u) ∷ fs) x v (inr h) n = has_key fs x v h (none_first (replacement fs x) (if y == x then Some u else None) n)

pub holds_key : (fs : Facts) (xs : List ℕ) → KeysIn fs xs → (x : ℕ) (v : Operand) → Has fs x v → holds xs x ≡ true
holds_key fs xs keys x v h = by (holds xs x) refl
  where
    by : (t : Bool) → holds xs x ≡ t → t ≡ true
    by true q = refl
    by false q = absurd (has_key fs x v h (keys x q))

-- ---- the block of a candidate

pub record CandidateAt (bs : List Block) (x : ℕ) (v : Operand) : Type 0 where
  pub at : ℕ
  pub block : Block
  pub found : slice_get bs at ≡ Some block
  pub has : Has (block_candidates block) x v

pub candidate_at : (bs : List Block) (x : ℕ) (v : Operand) → Has (blocks_candidates bs) x v → CandidateAt bs x v
candidate_at [] x v h = absurd h
candidate_at (b ∷ bs) x v h =
    elim (one_of (block_candidates b) (blocks_candidates bs) x v h) [
      | inl a ↦ record { at = zero; block = b; found = refl; has = a }
      | inr a ↦ (let rest = candidate_at bs x v a in record { at = suc rest.at; block = rest.block; found = rest.found; has = rest.has })
    ]

-- ---- inner locals

listed_key : (among : ℕ → Bool) (fs : Facts) (x : ℕ) (v : Operand) → Has fs x v → is_member among v ≡ true → is_listed x (keys_among among fs) ≡ true
listed_key among [] x v h m = absurd h
listed_key among ((y, u) ∷ fs) x v h m = by (is_member among u) refl h (λ h'. listed_key among fs x v h' m)
  where
    by : (t : Bool) → is_member among u ≡ t → ((y ≡ x) × (u ≡ v)) ⊎ Has fs x v → (Has fs x v → is_listed x (keys_among among fs) ≡ true)
        → is_listed x (if t then y ∷ keys_among among fs else keys_among among fs) ≡ true
    by true q (inl e) more = or_left (y == x) (is_listed x (keys_among among fs)) (eq-eqb y x e.0)
    by true q (inr h') more = or_right (y == x) (is_listed x (keys_among among fs)) (more h')
    by false q (inl e) more = absurd (false≢true (sym q ∙ ap (is_member among) e.1 ∙ m))
    by false q (inr h') more = more h'

listed_at : (among : ℕ → Bool) (x : ℕ) (bs : List Block) (p : ℕ) (b : Block) → slice_get bs p ≡ Some b → is_listed x (inner_keys among b) ≡ true → is_listed x (all_inner among bs) ≡ true
listed_at among x [] p b e h = absurd (cc e)
listed_at among x (d ∷ bs) zero b e h =
    let is : d ≡ b = cc e in
    listed_left x (inner_keys among d) (all_inner among bs) (ap (λ (a : Block). is_listed x (inner_keys among a)) is ∙ h)
listed_at among x (d ∷ bs) (suc p) b e h = listed_right x (inner_keys among d) (all_inner among bs) (listed_at among x bs p b e h)

inside : (among : ℕ → Bool) (b : Block) (x z : ℕ) → Has (block_candidates b) x (Local z) → among z ≡ true → defined b z ≡ false → is_listed x (inner_keys among b) ≡ true
unfolding inner_keys
inside among b x z h m q = listed_key (beside among (defined b)) (block_candidates b) x (Local z) h (and_from (among z) (not (defined b z)) m (ap not q))

-- a local whose candidate is of the set is inner, unless its block defines the candidate
pub inner_or_near : (among : ℕ → Bool) (bs : List Block) (p : ℕ) (b : Block) (x z : ℕ) → slice_get bs p ≡ Some b → Has (block_candidates b) x (Local z) → among z ≡ true
    → (is_listed x (all_inner among bs) ≡ true) ⊎ (holds (definitions b) z ≡ true)
inner_or_near among bs p b x z e h m = by (defined b z) refl
  where
    by : (t : Bool) → defined b z ≡ t → (is_listed x (all_inner among bs) ≡ true) ⊎ (holds (definitions b) z ≡ true)
    by true q = inr q
    by false q = inl (listed_at among x bs p b e (inside among b x z h m q))

-- a local whose candidate its block stands above is over it
over_at : (at : ℕ → Option ℕ) (above : ℕ → ℕ → Bool) (x z k : ℕ) (bs : List Block) (p : ℕ) (b : Block) → slice_get bs p ≡ Some b → Has (block_candidates b) x (Local z) → is_over at above (k + p) z ≡ true
    → is_listed x (all_over at above k bs) ≡ true
over_at at above x z k [] p b e h o = absurd (cc e)
over_at at above x z k (d ∷ bs) zero b e h o =
    let is : d ≡ b = cc e in
    let here : k + 0 ≡ k = omega arith in
    listed_left x (keys_among (is_over at above k) (block_candidates d)) (all_over at above (suc k) bs)
    (ap (λ (a : Block). is_listed x (keys_among (is_over at above k) (block_candidates a))) is
    ∙ listed_key (is_over at above k) (block_candidates b) x (Local z) h (ap (λ (q : ℕ). is_over at above q z) (sym here) ∙ o))
over_at at above x z k (d ∷ bs) (suc p) b e h o =
    let here : suc k + p ≡ k + suc p = omega arith in
    listed_right x (keys_among (is_over at above k) (block_candidates d)) (all_over at above (suc k) bs)
    (over_at at above x z (suc k) bs p b e h (ap (λ (q : ℕ). is_over at above q z) here ∙ o))

pub over_or_not : (at : ℕ → Option ℕ) (above : ℕ → ℕ → Bool) (x z : ℕ) (bs : List Block) (p : ℕ) (b : Block) → slice_get bs p ≡ Some b → Has (block_candidates b) x (Local z)
    → (is_listed x (all_over at above 0 bs) ≡ true) ⊎ (is_over at above p z ≡ false)
over_or_not at above x z bs p b e h = by (is_over at above p z) refl
  where
    by : (t : Bool) → is_over at above p z ≡ t → (is_listed x (all_over at above 0 bs) ≡ true) ⊎ (t ≡ false)
    by false q = inr refl
    by true q = inl (over_at at above x z 0 bs p b e h (let here : p ≡ 0 + p = omega arith in ap (λ (i : ℕ). is_over at above i z) (sym here) ∙ q))

pub none_among : (among : ℕ → Bool) (fs : Facts) (x : ℕ) (v : Operand) → any_among among fs ≡ false → Has fs x v → is_member among v ≡ false
none_among among [] x v n h = absurd h
none_among among ((y, u) ∷ fs) x v n (inl e) = ap (is_member among) (sym e.1) ∙ (neither (is_member among u) (any_among among fs) n).0
none_among among ((y, u) ∷ fs) x v n (inr h) = none_among among fs x v (neither (is_member among u) (any_among among fs) n).1 h
