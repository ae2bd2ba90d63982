-- Stack slots around an inlined call: those of the callee outlive its return in the better function.
use Rattle.std.proofs.Common.{◌≡◌, ◌≢◌, ℕ, ◌<◌, ◌≤◌, false, List, [], ◌∷◌, ◌++◌, length, Option, Some, slice_get, ◌⊎◌, inl, inr, refl, sym, ap, ◌∙◌, subst, arith, length-set}
use Rattle.std.proofs.lemmas.Bool.{cases_eq}
use Rattle.std.proofs.lemmas.Option.{slice_get_within}
use Rattle.std.specs.Prelude.{slice_set}
use Rattle.ir_meaning.specs.Memory.{MemoryBlock, Memory, dead, end_life, kill}
use Rattle.ir_meaning.specs.Relate.{Point, Related, Kept, SameMarks, SameBlock}
use Rattle.ir_meaning.proofs.Alike.Keeping.{get_set_same, get_set_other, marks_same, kept_refl, kept_trans, updated, update_kept}
use Rattle.ir_meaning.proofs.Between.Points.{lands, block_of, block_here, block_is}

-- ---- slots: each of the better function's is the counterpart of the program's next one, which is no variable, or its counterpart is dead

abbrev pub IsDead : Memory → ℕ → Type 0
IsDead m r = (b : MemoryBlock) × (slice_get m r ≡ Some b) × (b.live ≡ false)

abbrev pub SlotsOver : ℕ → Point → List ℕ → List ℕ → Type 0
SlotsOver g p [] rs = rs ≡ []
SlotsOver g p (l ∷ ls) rs =
    (l < length p.left) × (((r : ℕ) × (rs' : List ℕ) × (rs ≡ r ∷ rs') × (p.pairing l ≡ r) × (g ≤ r) × SlotsOver g p ls rs') ⊎
    (IsDead p.right (p.pairing l) × SlotsOver g p ls rs))

pub dead_later : {g : ℕ} (p q : Point) → Kept g p q → (l : ℕ) → l < length p.left → IsDead p.right (p.pairing l) → IsDead q.right (q.pairing l)
dead_later p q k l lt d =
    let y = k.ended (p.pairing l) d.0 d.1 d.2 in
    (y.0, ap (λ (i : ℕ). slice_get q.right i) (k.extends l lt) ∙ y.1, y.2)

pub over_later : {g : ℕ} (p q : Point) → Kept g p q → (ls rs : List ℕ) → SlotsOver g p ls rs → SlotsOver g q ls rs
over_later p q k [] rs s = s
over_later p q k (l ∷ ls) rs (lt, inl x) = (omega (arith, k.grown), inl (x.0, x.1, x.2, k.extends l lt ∙ x.3, x.4, over_later p q k ls x.1 x.5))
over_later p q k (l ∷ ls) rs (lt, inr x) = (omega (arith, k.grown), inr (dead_later p q k l lt x.0, over_later p q k ls rs x.1))

-- the better function's block dies where the program's is dead
pub left_dead_kept : {g : ℕ} (p : Point) → Related p → (l : ℕ) → l < length p.left → IsDead p.right (p.pairing l) →
    Kept g p (record { pairing = p.pairing; left = slice_set p.left l (dead (block_of p.left l)); right = p.right })
left_dead_kept p rel l lt d = record {
  related = record {
    blocks = λ m x e. block_by m x e (cases_eq m l);
    one_to_one = λ m n a c e. rel.one_to_one m n (omega (arith, size))
        (omega (arith, size)) e;
  };
  grown = omega (arith, size);
  extends = λ m lm. refl;
  marks = λ m x e. marked m x e (cases_eq m l);
  ended = λ r b e x. (b, e, x);
  alive = λ r below a. a;
  private = λ r x e u. (e, λ m lm. u m (omega (arith, size)));
}
  where
    size : length (slice_set p.left l (dead (block_of p.left l))) ≡ length p.left
    size = length-set p.left l (dead (block_of p.left l))

    dead_is : (x' : MemoryBlock) → slice_get p.right (p.pairing l) ≡ Some x' → x'.live ≡ false
    dead_is x' e = let is : d.0 ≡ x' = cc (d.1, e) in ap (λ (b : MemoryBlock). b.live) (sym is) ∙ d.2

    block_by : (m : ℕ) (x : MemoryBlock) → slice_get (slice_set p.left l (dead (block_of p.left l))) m ≡ Some x → (m ≡ l) ⊎ (m ≡ l → ⊥) →
        (x' : MemoryBlock) × (slice_get p.right (p.pairing m) ≡ Some x') ×
        SameBlock p.pairing (length (slice_set p.left l (dead (block_of p.left l)))) x x'
    block_by m x e (inl s) =
        let at = ap (λ (i : ℕ). slice_get (slice_set p.left l (dead (block_of p.left l))) i) (sym s) ∙ e in
        let is : dead (block_of p.left l) ≡ x = cc (at, get_set_same p.left l (dead (block_of p.left l)) lt) in
        let y = rel.blocks l (block_of p.left l) (block_here p.left l lt) in
        let ends = dead_is y.0 y.1 in
        let same : SameBlock p.pairing (length p.left) (dead (block_of p.left l)) y.0 =
        record {
          marks = record { size = y.2.marks.size; align = y.2.marks.align; writable = y.2.marks.writable };
          live = λ i. absurd (cc (i, ends));
          bytes = y.2.bytes;
        } in
        let same' = subst (λ (n : ℕ). SameBlock p.pairing n (dead (block_of p.left l)) y.0) (sym size) same in (
          y.0,
          ap (λ (i : ℕ). slice_get p.right (p.pairing i)) s ∙ y.1,
          subst (λ (b : MemoryBlock). SameBlock p.pairing (length (slice_set p.left l (dead (block_of p.left l)))) b y.0) is same',
        )
    block_by m x e (inr ne) =
        let at = sym (get_set_other p.left l m (dead (block_of p.left l)) ne) ∙ e in
        let y = rel.blocks m x at in
        (y.0, y.1, subst (λ (n : ℕ). SameBlock p.pairing n x y.0) (sym size) y.2)

    marked : (m : ℕ) (x : MemoryBlock) → slice_get p.left m ≡ Some x → (m ≡ l) ⊎ (m ≡ l → ⊥) → (x' : MemoryBlock) ×
        (slice_get (slice_set p.left l (dead (block_of p.left l))) m ≡ Some x') × SameMarks x x'
    marked m x e (inl s) =
        let is : block_of p.left l ≡ x = block_is p.left l x (ap (λ (i : ℕ). slice_get p.left i) (sym s) ∙ e) in (
          dead (block_of p.left l),
          ap (λ (i : ℕ). slice_get (slice_set p.left l (dead (block_of p.left l))) i) s
              ∙ get_set_same p.left l (dead (block_of p.left l)) lt,
          subst (λ (y : MemoryBlock). SameMarks y (dead (block_of p.left l))) is
              (record { size = refl; align = refl; writable = refl }),
        )
    marked m x e (inr ne) = (x, get_set_other p.left l m (dead (block_of p.left l)) ne ∙ e, marks_same x)

-- the program's block dies, and its counterpart goes on
pub right_dies_kept : {g : ℕ} (p : Point) → Related p → (l : ℕ) → l < length p.left → g ≤ p.pairing l →
    Kept g p (record { pairing = p.pairing; left = p.left; right = slice_set p.right (p.pairing l) (dead (block_of p.right (p.pairing l))) })
right_dies_kept p rel l lt over = record {
  related = record { blocks = λ m x e. block_by m x e (cases_eq m l); one_to_one = rel.one_to_one };
  grown = omega arith;
  extends = λ m lm. refl;
  marks = λ m x e. (x, e, marks_same x);
  ended = λ r b e x. ended_by r b e x (cases_eq r (p.pairing l));
  alive = λ r below a.
      let ne : r ≢ p.pairing l = omega arith in
      (a.0, get_set_other p.right (p.pairing l) r new ne ∙ a.1, a.2);
  private = λ r x e u. (get_set_other p.right (p.pairing l) r new (λ s. u l lt (sym s)) ∙ e, u);
}
  where
    new : MemoryBlock
    new = dead (block_of p.right (p.pairing l))

    block_by : (m : ℕ) (x : MemoryBlock) → slice_get p.left m ≡ Some x → (m ≡ l) ⊎ (m ≡ l → ⊥) → (x' : MemoryBlock) ×
        (slice_get (slice_set p.right (p.pairing l) new) (p.pairing m) ≡ Some x') × SameBlock p.pairing (length p.left) x x'
    block_by m x e (inl s) =
        let y = rel.blocks m x e in
        let is : block_of p.right (p.pairing l) ≡ y.0 = block_is p.right (p.pairing l) y.0 (ap (λ (i : ℕ). slice_get p.right (p.pairing i))
        (sym s) ∙ y.1) in
        let same : SameBlock p.pairing (length p.left) x (dead y.0) =
        record {
          marks = record { size = y.2.marks.size; align = y.2.marks.align; writable = y.2.marks.writable };
          live = λ i. absurd (cc i);
          bytes = y.2.bytes;
        } in (
          dead (block_of p.right (p.pairing l)),
          ap (λ (i : ℕ). slice_get (slice_set p.right (p.pairing l) new) (p.pairing i)) s
              ∙ get_set_same p.right (p.pairing l) new (lands p rel l lt),
          subst (λ (b : MemoryBlock). SameBlock p.pairing (length p.left)
              x (dead b)) (sym is) same,
        )
    block_by m x e (inr ne) =
        let y = rel.blocks m x e in
        let lm = slice_get_within p.left m x e in
        (y.0, get_set_other p.right (p.pairing l) (p.pairing m) new (λ s. ne (rel.one_to_one m l lm lt s)) ∙ y.1, y.2)

    ended_by : (r : ℕ) (b : MemoryBlock) → slice_get p.right r ≡ Some b → b.live ≡ false → (r ≡ p.pairing l) ⊎ (r ≡ p.pairing l → ⊥) →
        (b' : MemoryBlock) × (slice_get (slice_set p.right (p.pairing l) new) r ≡ Some b') × (b'.live ≡ false)
    ended_by r b e x (inl s) = (
      new,
      ap (λ (i : ℕ). slice_get (slice_set p.right (p.pairing l) new) i) s
          ∙ get_set_same p.right (p.pairing l) new (lands p rel l lt),
      refl,
    )
    ended_by r b e x (inr ne) = (b, get_set_other p.right (p.pairing l) r new ne ∙ e, x)

-- the return of the caller: all slots die
pub over_killed : (g : ℕ) (ls rs : List ℕ) (entry p : Point) → Kept g entry p → SlotsOver g p ls rs →
    Kept g entry (record { pairing = p.pairing; left = kill ls p.left; right = kill rs p.right })
over_killed g [] rs entry p k s = subst (λ (xs : List ℕ). Kept g entry (record {
  pairing = p.pairing;
  left = p.left;
  right = kill xs p.right;
})) (sym s) k
over_killed g (l ∷ ls) rs entry p k (lt, inr x) =
    let q : Point = record { pairing = p.pairing; left = slice_set p.left l (dead (block_of p.left l)); right = p.right } in
    let kq = left_dead_kept {g = g} p k.related l lt x.0 in
    let rest = over_killed g ls rs entry q (kept_trans entry p q k kq) (over_later p q kq ls rs x.1) in
    let is : end_life p.left l (slice_get p.left l) ≡ q.left = ap (λ (o : Option MemoryBlock). end_life p.left l o)
    (block_here p.left l lt) in
    subst (λ (m : Memory). Kept g entry (record { pairing = p.pairing; left = kill ls m; right = kill rs p.right })) (sym is) rest
over_killed g (l ∷ ls) rs entry p k (lt, inl s) =
    let b = block_of p.left l in
    let y = k.related.blocks l b (block_here p.left l lt) in
    let same : SameBlock p.pairing (length p.left) (dead b) (dead y.0) =
    record {
      marks = record { size = y.2.marks.size; align = y.2.marks.align; writable = y.2.marks.writable };
      live = λ i. i;
      bytes = y.2.bytes;
    } in
    let q = updated p l (dead b) (dead y.0) in
    let kq = update_kept {g = g} p k.related l (dead b) (dead y.0) lt same (record { size = refl; align = refl; writable = refl }) (λ d. refl)
    (λ below a. absurd (omega (arith, s.3, s.4))) in
    let rest = over_killed g ls s.1 entry q (kept_trans entry p q k kq) (over_later p q kq ls s.1 s.5) in
    let left_is : end_life p.left l (slice_get p.left l) ≡ q.left = ap (λ (o : Option MemoryBlock). end_life p.left l o)
    (block_here p.left l lt) in
    let right_is : end_life p.right s.0 (slice_get p.right s.0) ≡ q.right =
    ap (λ (i : ℕ). end_life p.right i (slice_get p.right i)) (sym s.3) ∙ ap (λ (o : Option MemoryBlock). end_life p.right (p.pairing l) o)
    y.1 in
    let a = subst (λ (m : Memory). Kept g entry (record { pairing = p.pairing; left = kill ls m; right = kill s.1 q.right })) (sym left_is)
    rest in
    let a' = subst (λ (m : Memory). Kept g entry (record { pairing = p.pairing; left = kill (l ∷ ls) p.left; right = kill s.1 m }))
    (sym right_is) a in
    subst (λ (xs : List ℕ). Kept g entry (record { pairing = p.pairing; left = kill (l ∷ ls) p.left; right = kill xs p.right })) (sym s.2) a'

pub record CalleeKilled (g : ℕ) (p : Point) (ls cs bs : List ℕ) : Type 0 where
  pub kept : Kept g p (record { pairing = p.pairing; left = p.left; right = kill cs p.right })
  pub over : SlotsOver g (record { pairing = p.pairing; left = p.left; right = kill cs p.right }) ls bs

pub record CalleeKilled' (g : ℕ) (p : Point) (ls cs bs : List ℕ) (m : Memory) : Type 0 where
  pub kept : Kept g p (record { pairing = p.pairing; left = p.left; right = kill cs m })
  pub over : SlotsOver g (record { pairing = p.pairing; left = p.left; right = kill cs m }) ls bs

-- the return of the callee: its slots die in the program alone
pub callee_killed : (g : ℕ) (ls cs bs : List ℕ) (p : Point) → Related p → SlotsOver g p ls (cs ++ bs) → CalleeKilled g p ls cs bs
callee_killed g ls [] bs p rel s = record { kept = kept_refl p rel; over = s }
callee_killed g [] (r ∷ cs) bs p rel s = absurd (cc s)
callee_killed g (l ∷ ls) (r ∷ cs) bs p rel (lt, inr x) =
    let rest = callee_killed g ls (r ∷ cs) bs p rel x.1 in
    let q : Point = record { pairing = p.pairing; left = p.left; right = kill (r ∷ cs) p.right } in
    record { kept = rest.kept; over = (lt, inr (dead_later p q rest.kept l lt x.0, rest.over)) }
callee_killed g (l ∷ ls) (r ∷ cs) bs p rel (lt, inl s) =
    let q : Point = record {
      pairing = p.pairing;
      left = p.left;
      right = slice_set p.right (p.pairing l)
          (dead (block_of p.right (p.pairing l)));
    } in
    let kq = right_dies_kept {g = g} p rel l lt (omega (arith, s.3, s.4)) in
    let tail : s.1 ≡ cs ++ bs = cc (s.2) in
    let head : r ≡ s.0 = cc (s.2) in
    let over = over_later p q kq ls (cs ++ bs) (subst (λ (xs : List ℕ). SlotsOver g p ls xs) tail s.5) in
    let rest = callee_killed g ls cs bs q kq.related over in
    let to = lands p rel l lt in
    let gone : IsDead q.right (q.pairing l) = (
      dead (block_of p.right (p.pairing l)),
      get_set_same p.right (p.pairing l)
          (dead (block_of p.right (p.pairing l))) to,
      refl,
    ) in
    let q' : Point = record { pairing = p.pairing; left = p.left; right = kill cs q.right } in
    let is : end_life p.right r (slice_get p.right r) ≡ q.right =
    ap (λ (i : ℕ). end_life p.right i (slice_get p.right i)) (head ∙ sym s.3)
    ∙ ap (λ (o : Option MemoryBlock). end_life p.right (p.pairing l) o) (block_here p.right (p.pairing l) to) in
    let all : CalleeKilled' g p (l ∷ ls) cs bs q.right = record {
      kept = kept_trans p q q' kq rest.kept;
      over = (lt, inr (dead_later q q' rest.kept l lt gone, rest.over));
    } in
    let all' = subst (λ (m : Memory). CalleeKilled' g p (l ∷ ls) cs bs m) (sym is) all in
    record { kept = all'.kept; over = all'.over }
