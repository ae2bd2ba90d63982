-- Where terminators lead, and the blocks to which they do.
use Rattle.std.proofs.Common.{◌≡◌, ℕ, zero, suc, ◌≤◌, nat_eq, Bool, true, false, List, [], ◌∷◌, Option, Some, None, map, ◌⊎◌, inl, inr, refl, sym, ◌∙◌, ap, subst, if◌then◌else◌}
use Rattle.std.specs.Prelude.{slice_get}
use Rattle.std.proofs.lemmas.Bool.{eqb-true}
use Rattle.ir_tree.specs.Flow.{successors}
use Rattle.ir_tree.specs.declared.block.Block.{Block}
use Rattle.ir_tree.specs.declared.block.Case.{Case}
use Rattle.ir_tree.specs.declared.block.Terminator.{Terminator}
use Rattle.ir_tree.specs.declared.block.Terminator.TheVariants.{Branch, Jump, Return, Switch, Unreachable}
use Rattle.ir_tree.specs.declared.operand.Operand.{Operand}
use Rattle.ir_meaning.specs.Act.{Leads', by_bits, by_value, case_target, exit_of, find_block, side}
use Rattle.ir_meaning.specs.Operate.{bits_of}
use Rattle.ir_meaning.specs.declared.value.Value.{Value}
use Rattle.ir_meaning.specs.Counted.{times}
use Rattle.ir_meaning.proofs.Counting.{here, later}

-- ---- successors

case_among : (cs : List Case) (default bits : ℕ) → (case_target cs default bits ≡ default) ⊎ (1 ≤ times (case_target cs default bits) (map (λ c. c.target) cs))
case_among [] default bits = inl refl
case_among (c ∷ cs) default bits = by (nat_eq c.bits bits) (case_among cs default bits)
  where
    by : (b : Bool) → (case_target cs default bits ≡ default) ⊎ (1 ≤ times (case_target cs default bits) (map (λ c. c.target) cs))
        → ((if b then c.target else case_target cs default bits) ≡ default) ⊎ (1 ≤ times (if b then c.target else case_target cs default bits) (c.target ∷ map (λ c. c.target) cs))
    by true h = inr (here c.target c.target (map (λ c. c.target) cs) refl)
    by false (inl h) = inl h
    by false (inr h) = inr (later (case_target cs default bits) c.target (map (λ c. c.target) cs) h)

pub switch_among : (cs : List Case) (default bits : ℕ) → 1 ≤ times (case_target cs default bits) (default ∷ map (λ c. c.target) cs)
switch_among cs default bits = by (case_among cs default bits)
  where
    by : (case_target cs default bits ≡ default) ⊎ (1 ≤ times (case_target cs default bits) (map (λ c. c.target) cs)) → 1 ≤ times (case_target cs default bits) (default ∷ map (λ c. c.target) cs)
    by (inl h) = here (case_target cs default bits) default (map (λ c. c.target) cs) (sym h)
    by (inr h) = later (case_target cs default bits) default (map (λ c. c.target) cs) h

pub side_among : (t f bits : ℕ) → 1 ≤ times (side t f bits) (t ∷ f ∷ [])
side_among t f zero = later f t (f ∷ []) (here f f [] refl)
side_among t f (suc n) = here t t (f ∷ []) refl

by_value_leads : (w : ℕ) (g : ℕ → ℕ) (v : Value) (target : ℕ) → by_value w g v ≡ Leads' target → (n : ℕ) × (g n ≡ target)
by_value_leads w g v target e = by (bits_of w v) e
  where
    by : (o : Option ℕ) → by_bits g o ≡ Leads' target → (n : ℕ) × (g n ≡ target)
    by (Some n) h = (n, cc h)
    by None h = absurd (cc h)

-- a terminator leads to one of its successors
pub exit_among : (value : Operand → Value) (t : Terminator) (target : ℕ) → exit_of value t ≡ Leads' target → 1 ≤ times target (successors t)
exit_among value (Return argument) target e = absurd (cc e)
exit_among value (Jump t) target e = here target t [] (cc e)
exit_among value (Branch c t f) target e =
    let x : (n : ℕ) × (side t f n ≡ target) = by_value_leads 1 (side t f) (value c) target e in
    subst (λ (m : ℕ). 1 ≤ times m (t ∷ f ∷ [])) x.1 (side_among t f x.0)
exit_among value (Switch w v d cs) target e =
    let x : (n : ℕ) × (case_target cs d n ≡ target) = by_value_leads w (case_target cs d) (value v) target e in
    subst (λ (m : ℕ). 1 ≤ times m (d ∷ map (λ c. c.target) cs)) x.1 (switch_among cs d x.0)
exit_among value Unreachable target e = absurd (cc e)

-- ---- blocks by their number

abbrev pub end_of : Option Block → Terminator
end_of None = Unreachable
end_of (Some b) = b.end

abbrev pub end_in : List Block → ℕ → Terminator
end_in bs n = end_of (find_block bs n)

pub number_found : (bs : List Block) (n : ℕ) (y : Block) → find_block bs n ≡ Some y → y.number ≡ n
number_found [] n y e = absurd cc
number_found (b ∷ bs) n y e = by (nat_eq b.number n) refl e (number_found bs n y)
  where
    by : (t : Bool) → nat_eq b.number n ≡ t → (if t then Some b else find_block bs n) ≡ Some y → (find_block bs n ≡ Some y → y.number ≡ n) → y.number ≡ n
    by true x e more = let same : b ≡ y = cc e in ap (λ (z : Block). z.number) (sym same) ∙ eqb-true b.number n x
    by false x e more = more e

pub found_at : (bs : List Block) (n : ℕ) (y : Block) → find_block bs n ≡ Some y → (i : ℕ) × (slice_get bs i ≡ Some y)
found_at [] n y e = absurd cc
found_at (b ∷ bs) n y e = by (nat_eq b.number n) e (found_at bs n y)
  where
    further : (i : ℕ) × (slice_get bs i ≡ Some y) → (i : ℕ) × (slice_get (b ∷ bs) i ≡ Some y)
    further (i, h) = (suc i, h)

    by : (t : Bool) → (if t then Some b else find_block bs n) ≡ Some y → (find_block bs n ≡ Some y → (i : ℕ) × (slice_get bs i ≡ Some y)) → (i : ℕ) × (slice_get (b ∷ bs) i ≡ Some y)
    by true e more = (0, e)
    by false e more = further (more e)
