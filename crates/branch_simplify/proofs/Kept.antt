-- What stays of a function whose decided terminators become jumps: its locals, their types, and where they are available.
use Rattle.std.proofs.Common.{◌≡◌, ℕ, zero, suc, ◌+◌, ◌≤◌, ◌<◌, nat_eq, ◌||◌, inl, inr, Bool, true, false, List, [], ◌∷◌, ◌++◌, Option, Some, None, map, option_map, length, refl, sym, ◌∙◌, ap, subst, arith, if◌then◌else◌}
use Rattle.std.specs.Prelude.{slice_get, flat_map, filter_map, take}
use Rattle.std.proofs.lemmas.Bool.{eqb-true}
use Rattle.std.proofs.lemmas.List.{length-map}
use Rattle.std.proofs.lemmas.Option.{slice_get-map}
use Rattle.ir_tree.specs.Flow.{AtEnds, Available, AvailableAt, AvailableAtEnd, IsJustified, Justified, availability, defined_before, defined_in, definitions, edges, entry_row, holds, leading_to, line_count, locals, parameters, phi_locals, results, room, successors}
use Rattle.ir_tree.specs.Formed.{numbers}
use Rattle.ir_tree.specs.Rules.{Typing, block_typings, line_typing, place, type_of, typing, typings}
use Rattle.ir_tree.specs.declared.block.Block.{Block}
use Rattle.ir_tree.specs.declared.function.Function.{Function}
use Rattle.ir_tree.specs.declared.instr.Phi.{Phi}
use Rattle.ir_tree.specs.declared.operand.Operand.{Operand}
use Rattle.ir_tree.specs.declared.operand.Operand.TheVariants as operand
use Rattle.ir_meaning.specs.Counted.{times}
use Rattle.ir_meaning.proofs.Counting.{edges_from, here, later, out_to}
use Rattle.branch_simplify.specs.Decided.{lost, straight}
use Rattle.branch_simplify.specs.Simplified.{lost_into, phi_left, simplified, simplified_block}
use Rattle.branch_simplify.proofs.Counting.{edges_stay}

module _ (all : List Block) where
  abbrev pub new_block : Block → Block
  new_block b = simplified_block (λ m. lost_into m all) b

  pub place_stays : (bs : List Block) (n : ℕ) → place (map new_block bs) n ≡ place bs n
  place_stays [] n = refl
  place_stays (b ∷ bs) n = ap (λ (k : ℕ). if nat_eq b.number n then zero else suc k) (place_stays bs n)

  numbers_from : (bs : List Block) → map (λ b. b.number) (map new_block bs) ≡ map (λ b. b.number) bs
  numbers_from [] = refl
  numbers_from (b ∷ bs) = ap (λ (l : List ℕ). b.number ∷ l) (numbers_from bs)

  locals_of_phis : (left : ℕ → ℕ) (ps : List Phi) → map (λ p. p.local) (map (phi_left left) ps) ≡ map (λ p. p.local) ps
  locals_of_phis left [] = refl
  locals_of_phis left (p ∷ ps) = ap (λ (l : List ℕ). p.local ∷ l) (locals_of_phis left ps)

  pub phi_locals_stay : (b : Block) → phi_locals (new_block b) ≡ phi_locals b
  phi_locals_stay b = locals_of_phis (λ n. times n (lost_into b.number all)) b.phis

  definitions_stay : (b : Block) → definitions (new_block b) ≡ definitions b
  definitions_stay b = ap (λ (l : List ℕ). l ++ results b.lines) (phi_locals_stay b)

  defined_from : (bs : List Block) → flat_map definitions (map new_block bs) ≡ flat_map definitions bs
  defined_from [] = refl
  defined_from (b ∷ bs) = (λ i. definitions_stay b i ++ defined_from bs i)

  types_of_phis : (left : ℕ → ℕ) (ps : List Phi) → map {B = Typing} (λ p. (p.local, Some p.reg)) (map (phi_left left) ps) ≡ map {B = Typing} (λ p. (p.local, Some p.reg)) ps
  types_of_phis left [] = refl
  types_of_phis left (p ∷ ps) = ap (λ (l : List Typing). (p.local, Some p.reg) ∷ l) (types_of_phis left ps)

  typings_of : (b : Block) → block_typings (new_block b) ≡ block_typings b
  typings_of b = ap (λ (l : List Typing). l ++ filter_map line_typing b.lines) (types_of_phis (λ n. times n (lost_into b.number all)) b.phis)

  typings_from : (bs : List Block) → flat_map block_typings (map new_block bs) ≡ flat_map block_typings bs
  typings_from [] = refl
  typings_from (b ∷ bs) = (λ i. typings_of b i ++ typings_from bs i)

module _ (f : Function) where
  abbrev pub step : Block → Block
  step b = new_block f.blocks b

  pub block_at : (i : ℕ) → slice_get (simplified f).blocks i ≡ option_map step (slice_get f.blocks i)
  block_at i = slice_get-map step f.blocks i

  pub numbers_stay : numbers (simplified f) ≡ numbers f
  numbers_stay = numbers_from f.blocks f.blocks

  pub locals_stay : locals (simplified f) ≡ locals f
  locals_stay = ap (λ (l : List ℕ). parameters f ++ l) (defined_from f.blocks f.blocks)

  typings_stay : typings (simplified f) ≡ typings f
  typings_stay = ap (λ (l : List Typing). map {B = Typing} (λ p. (p.local, Some p.reg)) f.params ++ l) (typings_from f.blocks f.blocks)

  pub type_stays : (o : Operand) → type_of (simplified f) o ≡ type_of f o
  type_stays (operand.Local x) = ap (λ (l : List Typing). typing l x) typings_stay
  type_stays (operand.Number width bits) = refl
  type_stays operand.Null = refl
  type_stays (operand.Poison reg) = refl
  type_stays (operand.Symbol symbol offset) = refl

  -- ---- edges

  out_less : (m : ℕ) (o : Option Block) → out_to m (option_map step o) ≤ out_to m o
  out_less m None = omega arith
  out_less m (Some b) = let all : times m (successors (straight b.end)) + times m (lost b.end) ≡ times m (successors b.end) = edges_stay m b.end in omega (arith, all)

  pub edges_less : (b i : ℕ) → times i (edges (simplified f) b) ≤ times i (edges f b)
  edges_less b i = by (slice_get f.blocks b) refl
    where
      none : slice_get f.blocks b ≡ None → edges (simplified f) b ≡ []
      none e = ap (leading_to (simplified f).blocks) (block_at b ∙ ap (option_map step) e)

      by : (o : Option Block) → slice_get f.blocks b ≡ o → times i (edges (simplified f) b) ≤ times i (edges f b)
      by None e = let new : times i (edges (simplified f) b) ≡ 0 = ap (times i) (none e) in omega (arith, new)
      by (Some block) e =
          let old : times i (edges f b) ≡ out_to block.number (slice_get f.blocks i) = edges_from f b block e i in
          let new : times i (edges (simplified f) b) ≡ out_to block.number (option_map step (slice_get f.blocks i)) =
          edges_from (simplified f) b (step block) (block_at b ∙ ap (option_map step) e) i ∙ ap (out_to block.number) (block_at i) in
          let less : out_to block.number (option_map step (slice_get f.blocks i)) ≤ out_to block.number (slice_get f.blocks i) = out_less block.number (slice_get f.blocks i) in
          omega (arith, old, new, less)

  -- ---- availability

  defined_stays : (o : Option Block) (x : ℕ) → defined_in (option_map step o) x ≡ defined_in o x
  defined_stays None x = refl
  defined_stays (Some b) x = ap (λ (l : List ℕ). holds l x) (definitions_stay f.blocks b)

  defined_in_stays : (b x : ℕ) → defined_in (slice_get (simplified f).blocks b) x ≡ defined_in (slice_get f.blocks b) x
  defined_in_stays b x = ap (λ (o : Option Block). defined_in o x) (block_at b) ∙ defined_stays (slice_get f.blocks b) x

  at_end : (rows : ℕ → ℕ → Bool) (x p : ℕ) (ps : List ℕ) → AtEnds (availability f) rows x ps → 1 ≤ times p ps → (rows p x || defined_in (slice_get f.blocks p) x) ≡ true
  at_end rows x p [] h some = absurd (omega (arith, some))
  at_end rows x p (q ∷ qs) h some = by (nat_eq q p) refl some (at_end rows x p qs h.1)
    where
      by : (t : Bool) → nat_eq q p ≡ t → 1 ≤ (if t then suc (times p qs) else times p qs) → (1 ≤ times p qs → (rows p x || defined_in (slice_get f.blocks p) x) ≡ true)
          → (rows p x || defined_in (slice_get f.blocks p) x) ≡ true
      by true e some more = subst (λ (r : ℕ). (rows r x || defined_in (slice_get f.blocks r) x) ≡ true) (eqb-true q p e) h.0
      by false e some more = more some

  at_ends : (rows : ℕ → ℕ → Bool) (x : ℕ) (old new : List ℕ) → ((p : ℕ) → 1 ≤ times p new → 1 ≤ times p old) → AtEnds (availability f) rows x old → AtEnds (availability (simplified f)) rows x new
  at_ends rows x old [] less h = tt
  at_ends rows x old (p ∷ ps) less h = (
    ap (λ (b : Bool). rows p x || b) (defined_in_stays p x) ∙ at_end rows x p old h (less p (here p p ps refl)),
    at_ends rows x old ps (λ q some. less q (later q p ps some)) h,
  )

  justified_stays : (rows : ℕ → ℕ → Bool) (b x : ℕ) → Justified (availability f) rows b x (entry_row b (parameters f)) → Justified (availability (simplified f)) rows b x (entry_row b (parameters f))
  justified_stays rows b x = at (nat_eq b 0)
    where
      at : (t : Bool) → Justified (availability f) rows b x (if t then Some (holds (parameters f)) else None) → Justified (availability (simplified f)) rows b x (if t then Some (holds (parameters f)) else None)
      at true h = h
      at false h = at_ends rows x (edges f b) (edges (simplified f) b) (λ p some. let less : times p (edges (simplified f) b) ≤ times p (edges f b) = edges_less b p in omega (arith, some, less)) h

  family_stays : (rows : ℕ → ℕ → Bool) → IsJustified (availability f) rows → IsJustified (availability (simplified f)) rows
  family_stays rows just b x mark =
      let old : (b < length f.blocks) × (x < room (locals f)) × Justified (availability f) rows b x (entry_row b (parameters f)) = just b x mark in (
        subst (λ (n : ℕ). b < n) (sym (length-map f.blocks step)) old.0,
        subst (λ (l : List ℕ). x < room l) (sym locals_stay) old.1,
        justified_stays rows b x old.2,
      )

  pub available_stays : (b x : ℕ) → Available f b x → Available (simplified f) b x
  available_stays b x (rows, just, mark) = (rows, family_stays rows just, mark)

  before_stays : (o : Option Block) (k x : ℕ) → defined_before (option_map step o) k x ≡ defined_before o k x
  before_stays None k x = refl
  before_stays (Some b) k x = ap (λ (l : List ℕ). holds (l ++ results (take k b.lines)) x) (phi_locals_stay f.blocks b)

  pub available_at_stays : (b k x : ℕ) → AvailableAt f b k x → AvailableAt (simplified f) b k x
  available_at_stays b k x (inl h) = inl (available_stays b x h)
  available_at_stays b k x (inr h) = inr (ap (λ (o : Option Block). defined_before o k x) (block_at b) ∙ before_stays (slice_get f.blocks b) k x ∙ h)

  count_stays : (o : Option Block) → line_count (option_map step o) ≡ line_count o
  count_stays None = refl
  count_stays (Some b) = refl

  pub available_at_end_stays : (b x : ℕ) → AvailableAtEnd f b x → AvailableAtEnd (simplified f) b x
  available_at_end_stays b x h =
      subst (λ (k : ℕ). AvailableAt (simplified f) b k x) (sym (ap line_count (block_at b) ∙ count_stays (slice_get f.blocks b))) (available_at_stays b (line_count (slice_get f.blocks b)) x h)
