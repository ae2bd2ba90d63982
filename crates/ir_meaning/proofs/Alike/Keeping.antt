-- What keeps memories: nothing, one thing after another, a store, a new block, the end of blocks.
use Rattle.std.proofs.Common.{◌≡◌, ◌≢◌, ℕ, zero, suc, ◌+◌, ◌<◌, ◌≤◌, true, false, List, [], ◌∷◌, ◌++◌, length, replicate, Option, Some, slice_get, ◌⊎◌, inl, inr, refl, sym, ap, ◌∙◌, subst, arith, length-set, length-append}
use Rattle.std.proofs.lemmas.Bool.{cases_lt, cases_eq}
use Rattle.std.proofs.lemmas.Option.{slice_get_within}
use Rattle.std.specs.Prelude.{slice_set}
use Rattle.ir_meaning.specs.Memory.{MemoryBlock, Memory, Lives, fresh, dead, end_life, kill}
use Rattle.ir_meaning.specs.Relate.{Pairing, Point, Fixes, Related, Kept, IsUnpaired, SameBytes, SameMarks, SameBlock}
use Rattle.ir_meaning.specs.declared.value.Byte.TheVariants.{Unset}
use Rattle.ir_meaning.proofs.Between.Middle.{block_wider}
use Rattle.ir_meaning.proofs.Between.Points.{lands, block_of, block_here, block_is, marks_compose, pick, pick_first, pick_second}

-- ---- lists

pub get_set_same : {X : Type 0} (xs : List X) (i : ℕ) (v : X) → i < length xs → slice_get (slice_set xs i v) i ≡ Some v
get_set_same [] i v lt = absurd (omega arith)
get_set_same (x ∷ xs) zero v lt = refl
get_set_same (x ∷ xs) (suc i) v lt = get_set_same xs i v (omega arith)

pub get_set_other : {X : Type 0} (xs : List X) (i j : ℕ) (v : X) → j ≢ i → slice_get (slice_set xs i v) j ≡ slice_get xs j
get_set_other [] i j v ne = refl
get_set_other (x ∷ xs) zero zero v ne = absurd (ne refl)
get_set_other (x ∷ xs) zero (suc j) v ne = refl
get_set_other (x ∷ xs) (suc i) zero v ne = refl
get_set_other (x ∷ xs) (suc i) (suc j) v ne = get_set_other xs i j v (λ e. ne (ap (λ (k : ℕ). suc k) e))

pub get_append_old : {X : Type 0} (xs ys : List X) (i : ℕ) → i < length xs → slice_get (xs ++ ys) i ≡ slice_get xs i
get_append_old [] ys i lt = absurd (omega arith)
get_append_old (x ∷ xs) ys zero lt = refl
get_append_old (x ∷ xs) ys (suc i) lt = get_append_old xs ys i (omega arith)

pub get_append_new : {X : Type 0} (xs : List X) (x : X) → slice_get (xs ++ x ∷ []) (length xs) ≡ Some x
get_append_new [] x = refl
get_append_new (y ∷ xs) x = get_append_new xs x

-- ---- nothing, and one after another

pub marks_same : (b : MemoryBlock) → SameMarks b b
marks_same b = record { size = refl; align = refl; writable = refl }

pub kept_refl : {g : ℕ} (p : Point) → Related p → Kept g p p
kept_refl p r = record {
  related = r;
  grown = omega arith;
  extends = λ l lt. refl;
  marks = λ l b e. (b, e, marks_same b);
  ended = λ r b e d. (b, e, d);
  alive = λ l lt a. a;
  private = λ l b e u. (e, u);
}

pub kept_trans : {g : ℕ} (p q r : Point) → Kept g p q → Kept g q r → Kept g p r
kept_trans p q r a b = record {
  related = b.related;
  grown = omega (arith, a.grown, b.grown);
  extends = λ l lt. b.extends l (omega (arith, a.grown)) ∙ a.extends l lt;
  marks = λ l x e.
      let y = a.marks l x e in
      let z = b.marks l y.0 y.1 in
      (z.0, z.1, marks_compose x y.0 z.0 y.2 z.2);
  ended = λ l x e d.
      let y = a.ended l x e d in
      b.ended l y.0 y.1 y.2;
  alive = λ l lt x. b.alive l lt (a.alive l lt x);
  private = λ l x e u. let y = a.private l x e u in b.private l x y.0 y.1;
}

pub kept_fixes : (g : ℕ) (p q : Point) → Fixes g p → Kept g p q → Fixes g q
kept_fixes g p q f k = record {
  variables = omega (arith, f.variables, k.grown);
  stay = λ l lt. k.extends l (omega (arith, f.variables)) ∙ f.stay l lt;
  alive = λ l lt. k.alive l lt (f.alive l lt);
}

pub fixes_right : (g : ℕ) (p : Point) → Fixes g p → g ≤ length p.right
fixes_right zero p f = omega arith
fixes_right (suc k) p f =
    let a = f.alive k (omega arith) in
    let lt = slice_get_within p.right k a.0 a.1 in
    omega arith

-- ---- a write to a block and its counterpart

abbrev pub updated : Point → ℕ → MemoryBlock → MemoryBlock → Point
updated p l b b' = record { pairing = p.pairing; left = slice_set p.left l b; right = slice_set p.right (p.pairing l) b' }

pub update_kept : {g : ℕ} (p : Point) → Related p → (l : ℕ) (b b' : MemoryBlock) → l < length p.left →
    SameBlock p.pairing (length p.left) b b' → SameMarks (block_of p.left l) b →
    ((block_of p.right (p.pairing l)).live ≡ false → b'.live ≡ false) →
    (p.pairing l < g → (block_of p.right (p.pairing l)).live ≡ true → b'.live ≡ true) → Kept g p (updated p l b b')
update_kept {g} p rel l b b' lt same marks end going = record {
  related = record { blocks = blocks; one_to_one = λ m n a c e. rel.one_to_one m n (omega (arith, size)) (omega (arith, size)) e };
  grown = omega (arith, size);
  extends = λ m lm. refl;
  marks = λ m x e. marked m x e (cases_eq m l);
  ended = λ r x e d. ended_by r x e d (cases_eq r (p.pairing l));
  alive = λ r below a. alive_by r below a (cases_eq r (p.pairing l));
  private = λ r x e u. (get_set_other p.right (p.pairing l) r b' (λ s. u l lt (sym s)) ∙ e, λ m lm. u m (omega (arith, size)));
}
  where
    size : length (slice_set p.left l b) ≡ length p.left
    size = length-set p.left l b

    block_by : (m : ℕ) (x : MemoryBlock) → slice_get (slice_set p.left l b) m ≡ Some x → (m ≡ l) ⊎ (m ≡ l → ⊥) →
        (x' : MemoryBlock) × (slice_get (slice_set p.right (p.pairing l) b') (p.pairing m) ≡ Some x') ×
        SameBlock p.pairing (length p.left) x x'
    block_by m x e (inl s) =
        let at = ap (λ (i : ℕ). slice_get (slice_set p.left l b) i) (sym s) ∙ e in
        let is : b ≡ x = cc (at, get_set_same p.left l b lt) in (
          b',
          ap (λ (i : ℕ). slice_get (slice_set p.right (p.pairing l) b') (p.pairing i)) s
              ∙ get_set_same p.right (p.pairing l) b' (lands p rel l lt),
          subst (λ (y : MemoryBlock). SameBlock p.pairing (length p.left) y b') is same,
        )
    block_by m x e (inr ne) =
        let at = sym (get_set_other p.left l m b ne) ∙ e in
        let y = rel.blocks m x at in
        let lm = slice_get_within p.left m x at in
        (y.0, get_set_other p.right (p.pairing l) (p.pairing m) b' (λ s. ne (rel.one_to_one m l lm lt s)) ∙ y.1, y.2)

    ended_by : (r : ℕ) (x : MemoryBlock) → slice_get p.right r ≡ Some x → x.live ≡ false →
        (r ≡ p.pairing l) ⊎ (r ≡ p.pairing l → ⊥) → (x' : MemoryBlock) ×
        (slice_get (slice_set p.right (p.pairing l) b') r ≡ Some x') × (x'.live ≡ false)
    ended_by r x e d (inl s) =
        let is : block_of p.right (p.pairing l) ≡ x = block_is p.right (p.pairing l) x (ap (λ (i : ℕ). slice_get p.right i) (sym s) ∙ e) in (
          b',
          ap (λ (i : ℕ). slice_get (slice_set p.right (p.pairing l) b') i) s
              ∙ get_set_same p.right (p.pairing l) b' (lands p rel l lt),
          end (ap (λ (y : MemoryBlock). y.live) is ∙ d),
        )
    ended_by r x e d (inr ne) = (x, get_set_other p.right (p.pairing l) r b' ne ∙ e, d)

    alive_by : (r : ℕ) → r < g → Lives p.right r → (r ≡ p.pairing l) ⊎ (r ≡ p.pairing l → ⊥) →
        Lives (slice_set p.right (p.pairing l) b') r
    alive_by r below a (inl s) =
        let is : block_of p.right (p.pairing l) ≡ a.0 =
        block_is p.right (p.pairing l) a.0 (ap (λ (i : ℕ). slice_get p.right i) (sym s) ∙ a.1) in (
          b',
          ap (λ (i : ℕ). slice_get (slice_set p.right (p.pairing l) b') i) s
              ∙ get_set_same p.right (p.pairing l) b' (lands p rel l lt),
          going (omega arith) (ap (λ (y : MemoryBlock). y.live) is ∙ a.2),
        )
    alive_by r below a (inr ne) = (a.0, get_set_other p.right (p.pairing l) r b' ne ∙ a.1, a.2)

    blocks : (m : ℕ) (x : MemoryBlock) → slice_get (slice_set p.left l b) m ≡ Some x → (x' : MemoryBlock) ×
        (slice_get (slice_set p.right (p.pairing l) b') (p.pairing m) ≡ Some x') ×
        SameBlock p.pairing (length (slice_set p.left l b)) x x'
    blocks m x e =
        let y = block_by m x e (cases_eq m l) in
        (y.0, y.1, subst (λ (n : ℕ). SameBlock p.pairing n x y.0) (sym size) y.2)

    marked : (m : ℕ) (x : MemoryBlock) → slice_get p.left m ≡ Some x → (m ≡ l) ⊎ (m ≡ l → ⊥) → (x' : MemoryBlock) ×
        (slice_get (slice_set p.left l b) m ≡ Some x') × SameMarks x x'
    marked m x e (inl s) =
        let is : block_of p.left l ≡ x = block_is p.left l x (ap (λ (i : ℕ). slice_get p.left i) (sym s) ∙ e) in (
          b,
          ap (λ (i : ℕ). slice_get (slice_set p.left l b) i) s ∙ get_set_same p.left l b lt,
          subst (λ (y : MemoryBlock). SameMarks y b) is marks,
        )
    marked m x e (inr ne) = (x, get_set_other p.left l m b ne ∙ e, marks_same x)

-- ---- a new block on both sides

abbrev pub pairing_more : Point → Pairing
pairing_more p l = pick (cases_lt l (length p.left)) (p.pairing l) (length p.right)

abbrev pub more : Point → MemoryBlock → MemoryBlock → Point
more p b b' = record { pairing = pairing_more p; left = p.left ++ b ∷ []; right = p.right ++ b' ∷ [] }

pub more_old : (p : Point) (l : ℕ) → l < length p.left → pairing_more p l ≡ p.pairing l
more_old p l lt = pick_first l (length p.left) (p.pairing l) (length p.right) (cases_lt l (length p.left)) lt

pub more_new : (p : Point) → pairing_more p (length p.left) ≡ length p.right
more_new p = pick_second (length p.left) (length p.left) (p.pairing (length p.left)) (length p.right)
    (cases_lt (length p.left) (length p.left)) (omega arith)

pub more_kept : {g : ℕ} (p : Point) → Related p → (b b' : MemoryBlock) → SameBlock (pairing_more p) (length (p.left ++ b ∷ [])) b b' →
    Kept g p (more p b b')
more_kept p rel b b' same = record {
  related = record { blocks = λ l x e. block_by l x e (cases_lt l (length p.left)); one_to_one = one };
  grown = omega (arith, size);
  extends = more_old p;
  marks = λ l x e. (x, get_append_old p.left (b ∷ []) l (slice_get_within p.left l x e) ∙ e, marks_same x);
  ended = λ r x e d. (x, get_append_old p.right (b' ∷ []) r (slice_get_within p.right r x e) ∙ e, d);
  alive = λ r below a. (a.0, get_append_old p.right (b' ∷ []) r (slice_get_within p.right r a.0 a.1) ∙ a.1, a.2);
  private = λ r x e u.
      let lr = slice_get_within p.right r x e in
      (get_append_old p.right (b' ∷ []) r lr ∙ e, λ l ll. alone r u lr l (cases_lt l (length p.left)));
}
  where
    size : length (p.left ++ b ∷ []) ≡ length p.left + 1
    size = length-append p.left (b ∷ [])

    alone : (r : ℕ) → IsUnpaired p r → r < length p.right → (l : ℕ) → (l < length p.left) ⊎ (length p.left ≤ l) → pairing_more p l ≢ r
    alone r u lr l (inl a) e = u l a (sym (more_old p l a) ∙ e)
    alone r u lr l (inr c) e =
        let x = pick_second l (length p.left) (p.pairing l) (length p.right) (cases_lt l (length p.left)) c in
        absurd (omega arith)

    block_by : (l : ℕ) (x : MemoryBlock) → slice_get (p.left ++ b ∷ []) l ≡ Some x → (l < length p.left) ⊎ (length p.left ≤ l) →
        (x' : MemoryBlock) × (slice_get (p.right ++ b' ∷ []) (pairing_more p l) ≡ Some x') ×
        SameBlock (pairing_more p) (length (p.left ++ b ∷ [])) x x'
    block_by l x e (inl a) =
        let y = rel.blocks l x (sym (get_append_old p.left (b ∷ []) l a) ∙ e) in
        let to = lands p rel l a in (
          y.0,
          ap (λ (i : ℕ). slice_get (p.right ++ b' ∷ []) i) (more_old p l a)
              ∙ get_append_old p.right (b' ∷ []) (p.pairing l) to
              ∙ y.1,
          block_wider (length p.left) (length (p.left ++ b ∷ [])) p.pairing (pairing_more p) (omega (arith, size))
              (more_old p) x y.0 y.2,
        )
    block_by l x e (inr c) =
        let ll = slice_get_within (p.left ++ b ∷ []) l x e in
        let is_l : l ≡ length p.left = omega (arith, size) in
        let is : b ≡ x = cc (get_append_new p.left b, e, ap (λ (i : ℕ). slice_get (p.left ++ b ∷ []) i) is_l) in (
          b',
          ap (λ (i : ℕ). slice_get (p.right ++ b' ∷ []) (pairing_more p i)) is_l
              ∙ ap (λ (i : ℕ). slice_get (p.right ++ b' ∷ []) i) (more_new p) ∙ get_append_new p.right b',
          subst (λ (y : MemoryBlock). SameBlock (pairing_more p) (length (p.left ++ b ∷ [])) y b') is same,
        )

    one_by : (l m : ℕ) → l < length (p.left ++ b ∷ []) → m < length (p.left ++ b ∷ []) → pairing_more p l ≡ pairing_more p m →
        (l < length p.left) ⊎ (length p.left ≤ l) → (m < length p.left) ⊎ (length p.left ≤ m) → l ≡ m
    one_by l m ll lm e (inl a) (inl c) = rel.one_to_one l m a c (sym (more_old p l a) ∙ e ∙ more_old p m c)
    one_by l m ll lm e (inl a) (inr c) =
        let to = lands p rel l a in
        let x = more_old p l a in
        let y = pick_second m (length p.left) (p.pairing m) (length p.right) (cases_lt m (length p.left)) c in
        absurd (omega arith)
    one_by l m ll lm e (inr a) (inl c) =
        let to = lands p rel m c in
        let x = more_old p m c in
        let y = pick_second l (length p.left) (p.pairing l) (length p.right) (cases_lt l (length p.left)) a in
        absurd (omega arith)
    one_by l m ll lm e (inr a) (inr c) = omega (arith, size)

    one : (l m : ℕ) → l < length (p.left ++ b ∷ []) → m < length (p.left ++ b ∷ []) → pairing_more p l ≡ pairing_more p m → l ≡ m
    one l m ll lm e = one_by l m ll lm e (cases_lt l (length p.left)) (cases_lt m (length p.left))

unset_same : (w : Pairing) (n k : ℕ) → SameBytes w n (replicate k Unset) (replicate k Unset)
unset_same w n zero = tt
unset_same w n (suc k) = (tt, unset_same w n k)

pub fresh_same : (w : Pairing) (n size align : ℕ) → SameBlock w n (fresh size align) (fresh size align)
fresh_same w n size align = record { marks = marks_same (fresh size align); live = λ i. i; bytes = unset_same w n size }

-- ---- the end of blocks

-- the slots are counterparts, and none is one of the g variables
abbrev pub SlotsPaired : ℕ → Pairing → ℕ → List ℕ → List ℕ → Type 0
SlotsPaired g w n [] [] = Unit {0}
SlotsPaired g w n (l ∷ ls) (r ∷ rs) = (l < n) × (w l ≡ r) × (g ≤ r) × SlotsPaired g w n ls rs
SlotsPaired g w n _ _ = ⊥

pub kill_kept : (g : ℕ) (ls rs : List ℕ) (p : Point) → Related p → SlotsPaired g p.pairing (length p.left) ls rs →
    Kept g p (record { pairing = p.pairing; left = kill ls p.left; right = kill rs p.right })
kill_kept g [] [] p rel s = kept_refl p rel
kill_kept g [] (r ∷ rs) p rel s = absurd s
kill_kept g (l ∷ ls) [] p rel s = absurd s
kill_kept g (l ∷ ls) (r ∷ rs) p rel s =
    let b = block_of p.left l in
    let at = block_here p.left l s.0 in
    let x = rel.blocks l b at in
    let same : SameBlock p.pairing (length p.left) (dead b) (dead x.0) =
    record {
      marks = record { size = x.2.marks.size; align = x.2.marks.align; writable = x.2.marks.writable };
      live = λ i. i;
      bytes = x.2.bytes;
    } in
    let q = updated p l (dead b) (dead x.0) in
    let k = update_kept {g = g} p rel l (dead b) (dead x.0) s.0 same (record { size = refl; align = refl; writable = refl }) (λ d. refl)
    (λ below a. absurd (omega (arith, s.1, s.2))) in
    let size = length-set p.left l (dead b) in
    let s' = subst (λ (n : ℕ). SlotsPaired g p.pairing n ls rs) (sym size) s.3 in
    let rest = kill_kept g ls rs q k.related s' in
    let all = kept_trans p q (record { pairing = p.pairing; left = kill ls q.left; right = kill rs q.right }) k rest in
    let left_is : end_life p.left l (slice_get p.left l) ≡ q.left = ap (λ (o : Option MemoryBlock). end_life p.left l o) at in
    let right_is : end_life p.right r (slice_get p.right r) ≡ q.right =
    ap (λ (i : ℕ). end_life p.right i (slice_get p.right i)) (sym s.1)
    ∙ ap (λ (o : Option MemoryBlock). end_life p.right (p.pairing l) o) x.1 in
    let all' = subst (λ (m : Memory). Kept g p (record { pairing = p.pairing; left = kill ls m; right = kill rs q.right }))
    (sym left_is) all in
    subst (λ (m : Memory). Kept g p (record {
      pairing = p.pairing;
      left = kill ls (end_life p.left l (slice_get p.left l));
      right = kill rs m;
    })) (sym right_is) all'
