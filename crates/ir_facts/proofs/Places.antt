-- Points of a function, block by block, and the marks of one fact at them.
use Rattle.std.proofs.Common.{◌≡◌, ℕ, zero, suc, ◌+◌, ◌≤◌, ◌<◌, ◌==◌, Bool, false, List, [], ◌∷◌, ◌++◌, Option, Some, None, length, map, take, refl, ◌∙◌, ap, arith, if◌then◌else◌}
use Rattle.std.specs.Prelude.{slice_get}
use Rattle.std.proofs.lemmas.Bool.{eq-eqb, ne_eqb}
use Rattle.std.proofs.lemmas.List.{get_or_append_left, get_or-append-add, length-map}
use Rattle.lto_sets.specs.Sets.{contains}
use Rattle.ir_tree.specs.declared.block.Block.{Block}
use Rattle.ir_tree.specs.declared.instr.Line.{Line}
use Rattle.ir_tree.specs.declared.operand.Operand.{Operand}
use Rattle.ir_tree.specs.Edited.{line_edited}
use Rattle.ir_edit.specs.Numbered.{later_or}
use Rattle.fact_sources.specs.AtPoints.{last_point}
use Rattle.ir_facts.specs.Points.{held_along, held_behind, line_points, points_from}
use Rattle.ir_facts.proofs.Editing.{block_by}

-- the points before the block at a place
abbrev pub base : List Block → ℕ → ℕ
base bs zero = 0
base [] (suc p) = 0
base (b ∷ bs) (suc p) = suc (length b.lines + base bs p)

pub base_next : (bs : List Block) (p : ℕ) (b : Block) → slice_get bs p ≡ Some b → base bs (suc p) ≡ suc (base bs p + length b.lines)
base_next [] p b e = absurd (cc e)
base_next (d ∷ bs) zero b e =
    let is : d ≡ b = cc e in
    let long : length d.lines ≡ length b.lines = ap (λ (c : Block). length c.lines) is in
    first bs (length d.lines) (length b.lines) long
  where
    first : (bs : List Block) (m n : ℕ) → m ≡ n → suc (m + base bs 0) ≡ suc (0 + n)
    first bs m n long = omega (arith, long)
base_next (d ∷ bs) (suc p) b e =
    let more : base bs (suc p) ≡ suc (base bs p + length b.lines) = base_next bs p b e in
    omega (arith, more)

-- ---- one fact's points

module _ (x : ℕ) (v : Operand) where
  points_long : (ls : List Line) (held : Bool) → length (line_points x v ls held) ≡ suc (length ls)
  points_long [] held = refl
  points_long (l ∷ ls) held = ap suc (points_long ls (held_behind x v l.local held))

  line_point : (ls : List Line) (held : Bool) (i : ℕ) → i ≤ length ls → contains (line_points x v ls held) i ≡ held_along x v (take i ls) held
  line_point [] held zero lt = refl
  line_point [] held (suc i) lt = absurd (omega (arith, lt))
  line_point (l ∷ ls) held zero lt = refl
  line_point (l ∷ ls) held (suc i) lt = line_point ls (held_behind x v l.local held) i (omega (arith, lt))

  -- the mark at a point of a block is that of the fact behind as many lines
  pub point_of : (starts : ℕ → Bool) (k : ℕ) (bs : List Block) (p : ℕ) (b : Block) → slice_get bs p ≡ Some b → (i : ℕ) → i ≤ length b.lines
      → contains (points_from x v starts k bs) (base bs p + i) ≡ held_along x v (take i b.lines) (starts (k + p))
  point_of starts k [] p b e i lt = absurd (cc e)
  point_of starts k (d ∷ bs) zero b e i lt =
      let is : d ≡ b = cc e in
      let at : 0 + i ≡ i = omega arith in
      let here : k ≡ k + 0 = omega arith in
      let long : length (line_points x v d.lines (starts k)) ≡ suc (length d.lines) = points_long d.lines (starts k) in
      let same : length d.lines ≡ length b.lines = ap (λ (c : Block). length c.lines) is in
      let inside : i < length (line_points x v d.lines (starts k)) = omega (arith, lt, long, same) in
      let within : i ≤ length d.lines = omega (arith, lt, same) in
      ap (contains (line_points x v d.lines (starts k) ++ points_from x v starts (suc k) bs)) at
      ∙ get_or_append_left (line_points x v d.lines (starts k)) (points_from x v starts (suc k) bs) false i inside
      ∙ line_point d.lines (starts k) i within
      ∙ (λ j. held_along x v (take i (ap (λ (c : Block). c.lines) is j)) (starts (here j)))
  point_of starts k (d ∷ bs) (suc p) b e i lt =
      let long : length (line_points x v d.lines (starts k)) ≡ suc (length d.lines) = points_long d.lines (starts k) in
      let at : suc (length d.lines + base bs p) + i ≡ length (line_points x v d.lines (starts k)) + (base bs p + i) = omega (arith, long) in
      let here : suc k + p ≡ k + suc p = omega arith in
      ap (contains (line_points x v d.lines (starts k) ++ points_from x v starts (suc k) bs)) at
      ∙ get_or-append-add (line_points x v d.lines (starts k)) (points_from x v starts (suc k) bs) (base bs p + i) false
      ∙ point_of starts (suc k) bs p b e i lt
      ∙ ap (λ (q : ℕ). held_along x v (take i b.lines) (starts q)) here

-- no mark stands past the points
-- ---- last points

no_point : (n k : ℕ) (bs : List Block) → ((i : ℕ) (b : Block) → slice_get bs i ≡ Some b → b.number ≡ n → ⊥) → last_point k bs n ≡ None
no_point n k [] out = refl
no_point n k (b ∷ bs) out =
    ap (λ (o : Option ℕ). later_or o (if b.number == n then Some (k + length b.lines) else None)) (no_point n (suc (k + length b.lines)) bs (λ i d e. out (suc i) d e))
    ∙ ap (λ (t : Bool). if t then Some (k + length b.lines) else None) (ne_eqb b.number n (out 0 b refl))

-- a block of its own number has its last point behind its lines
pub last_of : (k : ℕ) (bs : List Block) (p : ℕ) (b : Block) → slice_get bs p ≡ Some b → ((i : ℕ) (d : Block) → slice_get bs i ≡ Some d → d.number ≡ b.number → i ≡ p)
    → last_point k bs b.number ≡ Some (k + base bs p + length b.lines)
last_of k [] p b e one = absurd (cc e)
last_of k (d ∷ bs) zero b e one =
    let is : d ≡ b = cc e in
    let long : length d.lines ≡ length b.lines = ap (λ (c : Block). length c.lines) is in
    let at : k + length d.lines ≡ k + 0 + length b.lines = omega (arith, long) in
    let none = no_point b.number (suc (k + length d.lines)) bs (λ i c g same. let clash : suc i ≡ 0 = one (suc i) c g same in absurd (omega (arith, clash))) in
    ap (λ (o : Option ℕ). later_or o (if d.number == b.number then Some (k + length d.lines) else None)) none
    ∙ ap (λ (t : Bool). if t then Some (k + length d.lines) else None) (eq-eqb d.number b.number (ap (λ (c : Block). c.number) is))
    ∙ ap (λ (m : ℕ). Some m) at
last_of k (d ∷ bs) (suc p) b e one =
    let at : suc (k + length d.lines) + base bs p + length b.lines ≡ k + suc (length d.lines + base bs p) + length b.lines = omega arith in
    ap (λ (o : Option ℕ). later_or o (if d.number == b.number then Some (k + length d.lines) else None))
    (last_of (suc (k + length d.lines)) bs p b e (λ i c g same. let next : suc i ≡ suc p = one (suc i) c g same in omega (arith, next)) ∙ ap (λ (m : ℕ). Some m) at)

-- ---- of a function with its operands changed

module _ (h : Operand → Operand) where
  pub long_as : (b : Block) → length (block_by h b).lines ≡ length b.lines
  long_as b = length-map b.lines (line_edited (λ x. x) h)

  pub last_same : (k : ℕ) (bs : List Block) (n : ℕ) → last_point k (map (block_by h) bs) n ≡ last_point k bs n
  last_same k [] n = refl
  last_same k (b ∷ bs) n =
      ap (λ (m : ℕ). later_or (last_point (suc (k + m)) (map (block_by h) bs) n) (if b.number == n then Some (k + m) else None)) (long_as b)
      ∙ ap (λ (o : Option ℕ). later_or o (if b.number == n then Some (k + length b.lines) else None)) (last_same (suc (k + length b.lines)) bs n)
