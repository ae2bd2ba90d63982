-- Phi entries and edges stay in step while blocks are joined.
use Rattle.std.proofs.Common.{◌≡◌, ◌≢◌, ℕ, zero, suc, ◌+◌, nat_eq, Bool, true, false, List, [], ◌∷◌, map, Some, refl, sym, ◌∙◌, ap, subst, arith, if◌then◌else◌}
use Rattle.std.specs.Prelude.{All, slice_get}
use Rattle.std.proofs.lemmas.Bool.{eq-eqb, eqb-true, eqb-false, ne_eqb}
use Rattle.std.proofs.lemmas.List.Elements.{All-cons, All-head, All-nil, All-tail}
use Rattle.ir_tree.specs.Flow.{successors}
use Rattle.ir_tree.specs.Formed.{Distinct}
use Rattle.ir_tree.specs.Rules.{Sound}
use Rattle.ir_tree.specs.declared.block.Block.{Block}
use Rattle.ir_tree.specs.declared.block.Terminator.{Terminator}
use Rattle.ir_tree.specs.declared.function.Function.{Function}
use Rattle.ir_tree.specs.declared.instr.Incoming.{Incoming}
use Rattle.ir_tree.specs.declared.instr.Phi.{Phi}
use Rattle.ir_meaning.specs.Counted.{sources, times}
use Rattle.ir_meaning.proofs.Counting.{distinct_rest, not_again, number_at, numbers_in}
use Rattle.ir_meaning.proofs.Entries.{apart, entries_counted}
use Rattle.block_trim.specs.Merged.{CanJoin, IsOneOf, behind_entry, entry_named, joined, joined_block, joined_blocks, phi_named, renamed}

-- ---- members

pub in_behind : (bs : List Block) (y : Block) → IsOneOf (behind_entry bs) y → IsOneOf bs y
in_behind [] y (i, at) = absurd cc
in_behind (x ∷ bs) y (i, at) = (suc i, at)

pub same_block : (bs : List Block) → Distinct (numbers_in bs) → (b c : Block) → IsOneOf bs b → IsOneOf bs c → b.number ≡ c.number → b ≡ c
same_block bs d b c (i, b_at) (j, c_at) e =
    let same : i ≡ j = d i j b.number (number_at bs i b b_at) (number_at bs j c c_at ∙ ap (λ (n : ℕ). Some n) (sym e)) in
    let both : Some b ≡ Some c = sym b_at ∙ ap (slice_get bs) same ∙ c_at in
    cc both

module _ (a : ℕ) (y : Block) where
  abbrev pub Stood : List Block → Block → Type 0
  Stood bs z = (b : Block) × IsOneOf bs b × (nat_eq y.number b.number ≡ false) × (z ≡ joined_block a y b)

  pub stood : (bs : List Block) (z : Block) → IsOneOf (joined_blocks a y bs) z → Stood bs z
  stood [] z (i, at) = absurd cc
  stood (b ∷ bs) z is = by (nat_eq y.number b.number) refl is (λ h. later (stood bs z h))
    where
      later : Stood bs z → Stood (b ∷ bs) z
      later (c, (i, at), e, made) = (c, (suc i, at), e, made)

      by : (t : Bool) → nat_eq y.number b.number ≡ t → IsOneOf (if t then joined_blocks a y bs else joined_block a y b ∷ joined_blocks a y bs) z → (IsOneOf (joined_blocks a y bs) z → Stood (b ∷ bs) z) → Stood (b ∷ bs) z
      by true e h more = more h
      by false e (zero, at) more = (b, (0, refl), e, sym (cc at))
      by false e (suc i, at) more = more (i, at)

  number_stood : (bs : List Block) (j n : ℕ) → slice_get (numbers_in (joined_blocks a y bs)) j ≡ Some n → (i : ℕ) × (slice_get (numbers_in bs) i ≡ Some n)
  number_stood [] j n e = absurd cc
  number_stood (b ∷ bs) j n e = by (nat_eq y.number b.number) j e (λ k h. later (number_stood bs k n h))
    where
      later : (i : ℕ) × (slice_get (numbers_in bs) i ≡ Some n) → (i : ℕ) × (slice_get (numbers_in (b ∷ bs)) i ≡ Some n)
      later (i, h) = (suc i, h)

      by : (t : Bool) (j : ℕ) → slice_get (numbers_in (if t then joined_blocks a y bs else joined_block a y b ∷ joined_blocks a y bs)) j ≡ Some n
          → ((k : ℕ) → slice_get (numbers_in (joined_blocks a y bs)) k ≡ Some n → (i : ℕ) × (slice_get (numbers_in (b ∷ bs)) i ≡ Some n)) → (i : ℕ) × (slice_get (numbers_in (b ∷ bs)) i ≡ Some n)
      by true j e more = more j e
      by false zero e more = (0, e)
      by false (suc j) e more = more j e

  distinct_cons : (x : ℕ) (xs : List ℕ) → ((j z : ℕ) → slice_get xs j ≡ Some z → x ≡ z → ⊥) → Distinct xs → (i j z : ℕ) → slice_get (x ∷ xs) i ≡ Some z → slice_get (x ∷ xs) j ≡ Some z → i ≡ j
  distinct_cons x xs h d zero zero z e g = refl
  distinct_cons x xs h d zero (suc j) z e g = absurd (h j z g (cc e))
  distinct_cons x xs h d (suc i) zero z e g = absurd (h i z e (cc g))
  distinct_cons x xs h d (suc i) (suc j) z e g = ap suc (d i j z e g)

  pub distinct_still : (bs : List Block) → Distinct (numbers_in bs) → Distinct (numbers_in (joined_blocks a y bs))
  distinct_still [] d = d
  distinct_still (b ∷ bs) d = by (nat_eq y.number b.number) (distinct_still bs (distinct_rest b.number (numbers_in bs) d))
    where
      again : (j z : ℕ) → slice_get (numbers_in (joined_blocks a y bs)) j ≡ Some z → b.number ≡ z → ⊥
      again j z e s =
          let was : (i : ℕ) × (slice_get (numbers_in bs) i ≡ Some z) = number_stood bs j z e in
          eqb-false b.number z (not_again b.number (numbers_in bs) d was.0 z was.1) s

      by : (t : Bool) → Distinct (numbers_in (joined_blocks a y bs)) → Distinct (numbers_in (if t then joined_blocks a y bs else joined_block a y b ∷ joined_blocks a y bs))
      by true h = h
      by false h = distinct_cons b.number (numbers_in (joined_blocks a y bs)) again h

-- ---- entries

entries_other : (n old new : ℕ) → n ≢ old → n ≢ new → (es : List Incoming) → times n (sources (map (entry_named (renamed old new)) es)) ≡ times n (sources es)
entries_other n old new o w [] = refl
entries_other n old new o w (e ∷ es) = by (nat_eq old e.from) refl (entries_other n old new o w es)
  where
    by : (t : Bool) → nat_eq old e.from ≡ t → times n (sources (map (entry_named (renamed old new)) es)) ≡ times n (sources es)
        → (if nat_eq (if t then new else e.from) n then suc (times n (sources (map (entry_named (renamed old new)) es))) else times n (sources (map (entry_named (renamed old new)) es)))
        ≡ (if nat_eq e.from n then suc (times n (sources es)) else times n (sources es))
    by true x h =
        ap (λ (b : Bool). if b then suc (times n (sources (map (entry_named (renamed old new)) es))) else times n (sources (map (entry_named (renamed old new)) es))) (ne_eqb new n (λ s. w (sym s)))
        ∙ h ∙ ap (λ (b : Bool). if b then suc (times n (sources es)) else times n (sources es)) (sym (ne_eqb e.from n (λ s. o (sym s ∙ sym (eqb-true old e.from x)))))
    by false x h = ap (λ (k : ℕ). if nat_eq e.from n then suc k else k) h

entries_new : (old new : ℕ) → new ≢ old → (es : List Incoming) → times new (sources (map (entry_named (renamed old new)) es)) ≡ times new (sources es) + times old (sources es)
entries_new old new ne [] = refl
entries_new old new ne (e ∷ es) = by (nat_eq old e.from) refl (entries_new old new ne es)
  where
    by : (t : Bool) → nat_eq old e.from ≡ t → times new (sources (map (entry_named (renamed old new)) es)) ≡ times new (sources es) + times old (sources es)
        → (if nat_eq (if t then new else e.from) new then suc (times new (sources (map (entry_named (renamed old new)) es))) else times new (sources (map (entry_named (renamed old new)) es)))
        ≡ (if nat_eq e.from new then suc (times new (sources es)) else times new (sources es)) + (if nat_eq e.from old then suc (times old (sources es)) else times old (sources es))
    by true x h =
        let is : old ≡ e.from = eqb-true old e.from x in
        let one : (if nat_eq new new then suc (times new (sources (map (entry_named (renamed old new)) es))) else times new (sources (map (entry_named (renamed old new)) es))) ≡ suc (times new (sources (map (entry_named (renamed old new)) es))) =
        ap (λ (b : Bool). if b then suc (times new (sources (map (entry_named (renamed old new)) es))) else times new (sources (map (entry_named (renamed old new)) es))) (eq-eqb new new refl) in
        let two : (if nat_eq e.from new then suc (times new (sources es)) else times new (sources es)) ≡ times new (sources es) =
        ap (λ (b : Bool). if b then suc (times new (sources es)) else times new (sources es)) (ne_eqb e.from new (λ s. ne (sym s ∙ sym is))) in
        let three : (if nat_eq e.from old then suc (times old (sources es)) else times old (sources es)) ≡ suc (times old (sources es)) =
        ap (λ (b : Bool). if b then suc (times old (sources es)) else times old (sources es)) (eq-eqb e.from old (sym is)) in
        omega (arith, h, one, two, three)
    by false x h =
        let three : (if nat_eq e.from old then suc (times old (sources es)) else times old (sources es)) ≡ times old (sources es) =
        ap (λ (b : Bool). if b then suc (times old (sources es)) else times old (sources es)) (ne_eqb e.from old (λ s. eqb-false old e.from x (sym s))) in
        at (nat_eq e.from new) three
      where
        at : (b : Bool) → (if nat_eq e.from old then suc (times old (sources es)) else times old (sources es)) ≡ times old (sources es)
            → (if b then suc (times new (sources (map (entry_named (renamed old new)) es))) else times new (sources (map (entry_named (renamed old new)) es)))
            ≡ (if b then suc (times new (sources es)) else times new (sources es)) + (if nat_eq e.from old then suc (times old (sources es)) else times old (sources es))
        at true g = omega (arith, h, g)
        at false g = omega (arith, h, g)

-- ---- functions

-- blocks have numbers of their own, and each phi has as many entries of a block as edges lead from there
pub record Fits (f : Function) : Type 0 where
  pub once : Distinct (numbers_in f.blocks)
  pub entries : (b from : Block) → IsOneOf f.blocks b → IsOneOf f.blocks from → All (λ p. times from.number (sources p.incoming) ≡ times b.number (successors from.end)) b.phis

pub sound_fits : (f : Function) → Sound f → Fits f
sound_fits f h = record {
  once = apart f h.formed;
  entries = λ b from (i, b_at) (j, from_at). entries_counted f h i j b from b_at from_at;
}

mapped : (P Q : Phi → Type 0) (g : Phi → Phi) → ((p : Phi) → P p → Q (g p)) → (ps : List Phi) → All P ps → All Q (map g ps)
mapped P Q g h [] all = All-nil Q
mapped P Q g h (p ∷ ps) all = All-cons Q (g p) (map g ps) (h p (All-head P p ps all)) (mapped P Q g h ps (All-tail P p ps all))

both : (P Q R : Phi → Type 0) → ((p : Phi) → P p → Q p → R p) → (ps : List Phi) → All P ps → All Q ps → All R ps
both P Q R f ps h g = λ k d lt. f _ (h k d lt) (g k d lt)

module _ (f : Function) (fits : Fits f) (a y : Block) (can : CanJoin f a y) where
  abbrev name : ℕ → ℕ
  name = renamed y.number a.number

  y_there : IsOneOf f.blocks y
  y_there = in_behind f.blocks y can.second

  -- what the first block leads to is the second alone
  none_from : (n : ℕ) → nat_eq y.number n ≡ false → times n (successors a.end) ≡ 0
  none_from n e = ap (λ (t : Terminator). times n (successors t)) can.jumps ∙ ap (λ (t : Bool). if t then 1 else 0) e

  abbrev Right : ℕ → Block → Phi → Type 0
  Right n from p = times from.number (sources p.incoming) ≡ times n (successors from.end)

  from_first : (b : Block) → IsOneOf f.blocks b → nat_eq y.number b.number ≡ false → All (λ p. times a.number (sources (phi_named name p).incoming) ≡ times b.number (successors y.end)) b.phis
  from_first b b_there apart =
      both (Right b.number a) (Right b.number y) (λ p. times a.number (sources (phi_named name p).incoming) ≡ times b.number (successors y.end))
      (λ p h g.
      let all : times a.number (sources (map (entry_named name) p.incoming)) ≡ times a.number (sources p.incoming) + times y.number (sources p.incoming) = entries_new y.number a.number (λ s. can.other (sym s)) p.incoming in
      let none : times b.number (successors a.end) ≡ 0 = none_from b.number apart in
      omega (arith, all, none, h, g)) b.phis (fits.entries b a b_there can.first) (fits.entries b y b_there y_there)

  entries_now : (z w : Block) → IsOneOf (joined a.number y f).blocks z → IsOneOf (joined a.number y f).blocks w → All (λ p. times w.number (sources p.incoming) ≡ times z.number (successors w.end)) z.phis
  entries_now z w z_is w_is = by (stood a.number y f.blocks z z_is) (stood a.number y f.blocks w w_is)
    where
      at : (b c : Block) → IsOneOf f.blocks b → IsOneOf f.blocks c → nat_eq y.number b.number ≡ false → nat_eq y.number c.number ≡ false → (t : Bool) → nat_eq a.number c.number ≡ t
          → All (λ p. times c.number (sources (phi_named name p).incoming) ≡ times b.number (successors (if t then y.end else c.end))) b.phis
      at b c b_is c_is b_apart c_apart true e =
          subst (λ (n : ℕ). All (λ p. times n (sources (phi_named name p).incoming) ≡ times b.number (successors y.end)) b.phis) (eqb-true a.number c.number e) (from_first b b_is b_apart)
      at b c b_is c_is b_apart c_apart false e =
          both (Right b.number c) (Right b.number c) (λ p. times c.number (sources (phi_named name p).incoming) ≡ times b.number (successors c.end))
          (λ p h g. entries_other c.number y.number a.number (λ s. eqb-false y.number c.number c_apart (sym s)) (λ s. eqb-false a.number c.number e (sym s)) p.incoming ∙ h) b.phis (fits.entries b c b_is c_is) (fits.entries b c b_is c_is)

      by : Stood a.number y f.blocks z → Stood a.number y f.blocks w → All (λ p. times w.number (sources p.incoming) ≡ times z.number (successors w.end)) z.phis
      by (b, b_is, b_apart, z_made) (c, c_is, c_apart, w_made) =
          subst (λ (u : Block). All (λ p. times w.number (sources p.incoming) ≡ times u.number (successors w.end)) u.phis) (sym z_made)
          (subst (λ (u : Block). All (λ p. times u.number (sources p.incoming) ≡ times b.number (successors u.end)) (map (phi_named name) b.phis)) (sym w_made)
          (mapped (λ p. times c.number (sources (phi_named name p).incoming) ≡ times b.number (successors (joined_block a.number y c).end))
          (λ p. times c.number (sources p.incoming) ≡ times b.number (successors (joined_block a.number y c).end)) (phi_named name) (λ p h. h) b.phis
          (at b c b_is c_is b_apart c_apart (nat_eq a.number c.number) refl)))

  pub fits_still : Fits (joined a.number y f)
  fits_still = record { once = distinct_still a.number y f.blocks fits.once; entries = entries_now }
