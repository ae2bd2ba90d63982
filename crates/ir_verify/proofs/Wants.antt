-- What is wanted of the parts of a flat initialiser, part by part.
use Rattle.std.proofs.Common.{◌≡◌, ◌↔◌, ℕ, suc, ◌-◌, ◌≤◌, Bool, true, false, List, [], ◌∷◌, length, get_or, drop, reverse, refl, sym, ap, subst, ◌∙◌, arith, IsTrue, All, Option, Some, None, Result, Ok, Err, IfOk, not, take, ◌==◌}
use Rattle.std.proofs.lemmas.List.{reverse-append, reverse-reverse}
use Rattle.std.proofs.lemmas.List.Elements.{All-nil, All-cons, All-head, All-tail, All-append}
use Rattle.std.specs.Borrow.{Bor}
use Rattle.ir_tree.specs.Fits.{Fits, AllFit, shapes}
use Rattle.ir_tree.specs.Forms.{Form, Forms, forms_of, no_parts, part}
use Rattle.ir_tree.specs.Same.{same}
use Rattle.ir_tree.specs.SameLaws.{same_decides}
use Rattle.ir_tree.specs.Initials.{Initial, Initials, elements, members, no_initials, initial, Levels, begun, levels, tree_of, flat_of, tree_of-flat_of}
use Rattle.ir_tree.specs.declared.init_node.InitHead.{InitHead}
use Rattle.ir_tree.specs.declared.init_node.InitHead.TheVariants.{Plain, Zeros, Bytes, Array, Struct}
use Rattle.ir_tree.specs.declared.init_node.InitPart.{InitPart}
use Rattle.ir_tree.specs.declared.init_node.InitPart.TheVariants.{Typed, End}
use Rattle.ir_verify.specs.declared.initial.Wanted.{Wanted}
use Rattle.ir_verify.specs.declared.initial.Wanted.TheVariants.{Each, These}
use Rattle.ir_verify.specs.Wants.{Fills, AllFill, Takes, Wants, Opened, begun_value, left_by, Begins, GoesOn}

-- a value that begins is the first of its level
begun_first : (f : Form) (h : InitHead) (l : Levels) → begun f h l ≡ (initial f (begun_value h l) (left_by h l).0, (left_by h l).1)
begun_first f (Plain operand) l = refl
begun_first f Zeros l = refl
begun_first f (Bytes text) l = refl
begun_first f Array l = refl
begun_first f (Struct packed) l = refl

-- the head and the levels of a tree's flat form give the tree
pub whole_value : (v : Initial) (h : InitHead) (ps : List InitPart) → (h, ps) ≡ flat_of v → begun_value h (levels ps) ≡ v
whole_value v (Plain operand) ps e = ap tree_of e ∙ tree_of-flat_of v
whole_value v Zeros ps e = ap tree_of e ∙ tree_of-flat_of v
whole_value v (Bytes text) ps e = ap tree_of e ∙ tree_of-flat_of v
whole_value v Array ps e = ap tree_of e ∙ tree_of-flat_of v
whole_value v (Struct packed) ps e = ap tree_of e ∙ tree_of-flat_of v

-- a value without parts opens nothing
pub begins_alone : (f : Form) (h : InitHead) (ws : List Wanted) (fits : Bool) → ((l : Levels) → IsTrue fits ↔ Fits f (begun_value h l)) → ((l : Levels) → left_by h l ≡ l) → Begins f h ws fits ws
begins_alone f h ws false e same = λ l fit. absurd (cc ((e l).1 fit))
begins_alone f h ws true e same =
    λ l. (λ p. subst (λ (m : Levels). AllFill ws m) (same l) p.1, λ p. ((e l).0 refl, subst (λ (m : Levels). AllFill ws m) (sym (same l)) p))

pub begins_array : (f : Form) (ws now : List Wanted) (fits : Bool) (w : Option Wanted) → Wants (λ vs. Fits f (elements vs)) w → Opened w ws fits now → Begins f Array ws fits now
begins_array f ws now fits None k o = subst (λ (b : Bool). Begins f Array ws b now) (sym o) (λ l fit. k l.0 fit)
begins_array f ws now fits (Some w) k o =
    subst (λ (b : Bool). Begins f Array ws b now) (sym o.0)
    (subst (λ (n : List Wanted). Begins f Array ws true n) (sym o.1) (λ l. (λ p. ((k l.0).0 p.0, p.1), λ p. ((k l.0).1 p.0, p.1))))

pub begins_struct : (f : Form) (packed : Bool) (ws now : List Wanted) (fits : Bool) (w : Option Wanted) → Wants (λ vs. Fits f (members packed vs)) w → Opened w ws fits now → Begins f (Struct packed) ws fits now
begins_struct f packed ws now fits None k o = subst (λ (b : Bool). Begins f (Struct packed) ws b now) (sym o) (λ l fit. k l.0 fit)
begins_struct f packed ws now fits (Some w) k o =
    subst (λ (b : Bool). Begins f (Struct packed) ws b now) (sym o.0)
    (subst (λ (n : List Wanted). Begins f (Struct packed) ws true n) (sym o.1) (λ l. (λ p. ((k l.0).0 p.0, p.1), λ p. ((k l.0).1 p.0, p.1))))

pub goes_nowhere : (p : InitPart) → GoesOn p [] true []
goes_nowhere p l = (λ x. tt, λ x. tt)

pub goes_refused : (f : Form) (h : InitHead) (w : Wanted) (ws now : List Wanted) → Takes w f None → GoesOn (Typed f h) (w ∷ ws) false now
goes_refused f h w ws now k l a =
    let b = subst (λ (m : Levels). AllFill (w ∷ ws) m) (begun_first f h l) a in k (begun_value h l) (left_by h l).0 b.0

pub goes_typed : (f : Form) (h : InitHead) (w rest : Wanted) (ws now : List Wanted) (fits : Bool) → Takes w f (Some rest) → Begins f h (rest ∷ ws) fits now → GoesOn (Typed f h) (w ∷ ws) fits now
goes_typed f h w rest ws now false k b =
    λ l a. let c = subst (λ (m : Levels). AllFill (w ∷ ws) m) (begun_first f h l) a in b l ((k (begun_value h l) (left_by h l).0).0 c.0).0
goes_typed f h w rest ws now true k b =
    λ l. (
      λ a.
          let c = subst (λ (m : Levels). AllFill (w ∷ ws) m) (begun_first f h l) a in
          let t = (k (begun_value h l) (left_by h l).0).0 c.0 in
          (b l).0 (t.0, (t.1, c.1)),
      λ a.
          let q = (b l).1 a in
          subst (λ (m : Levels). AllFill (w ∷ ws) m) (sym (begun_first f h l)) ((k (begun_value h l) (left_by h l).0).1 (q.0, q.1.0), q.1.1),
    )

pub goes_ok : {E : Type 0} (r : Result Bool E) (f : Form) (h : InitHead) (w rest : Wanted) (ws pushed now : List Wanted) → pushed ≡ rest ∷ ws → Takes w f (Some rest) → IfOk r (λ fits. Begins f h pushed fits now) → IfOk r (λ fits. GoesOn (Typed f h) (w ∷ ws) fits now)
goes_ok (Ok fits) f h w rest ws pushed now e k b = goes_typed f h w rest ws now fits k (subst (λ (p : List Wanted). Begins f h p fits now) e b)
goes_ok (Err x) f h w rest ws pushed now e k b = tt

pub goes_end : (w : Wanted) (ws : List Wanted) (fits : Bool) → (IsTrue fits ↔ Fills w no_initials) → GoesOn End (w ∷ ws) fits ws
goes_end w ws false e = λ l a. absurd (cc (e.1 a.0))
goes_end w ws true e = λ l. (λ a. a.1, λ a. (e.0 refl, a))

none_wanted : (fs : List Form) (b : Bool) → b ≡ (length fs == 0) → IsTrue b ↔ ((no_parts ≡ forms_of fs) × Unit {0})
none_wanted [] b e = (λ t. (refl, tt), λ p. e)
none_wanted (f ∷ fs) b e = (
  λ t.
      let zero_long : suc (length fs) ≡ 0 = grind (arith, e, t) in absurd (omega (arith, zero_long)),
  λ p. let never : no_parts ≡ part f (forms_of fs) = p.0 in absurd (cc never),
)

pub these_filled : (parts : Bor (List Form)) (b : Bool) → b ≡ (length parts.now == 0) → IsTrue b ↔ Fills (These parts) no_initials
these_filled parts b e = none_wanted parts.now b e

pub each_full : (left : ℕ) (of : Bor Form) (f : Form) → left ≡ 0 → Takes (Each left of) f None
each_full left of f e v vs h = absurd (omega (arith, e, h.0))

pub each_other : (left : ℕ) (of : Bor Form) (f : Form) → (of.now ≡ f → ⊥) → Takes (Each left of) f None
each_other left of f never v vs h = never (sym h.1.0)

pub each_next : (left : ℕ) (of : Bor Form) (f : Form) → (left ≡ 0 → ⊥) → of.now ≡ f → Takes (Each left of) f (Some (Each (left - 1) of))
each_next left of f some e v vs =
    (λ h. (h.2.0, (omega (arith, h.0), h.1.1, h.2.1)), λ p. (omega (arith, p.1.0, some), (sym e, p.1.1), (p.0, p.1.2)))

pub these_none : (parts : Bor (List Form)) (f : Form) → parts.now ≡ [] → Takes (These parts) f None
these_none parts f e v vs h =
    let same : part f (shapes vs) ≡ no_parts = h.0 ∙ ap forms_of e in absurd (cc same)

pub these_other : (parts : Bor (List Form)) (f g : Form) (gs : List Form) → parts.now ≡ g ∷ gs → (g ≡ f → ⊥) → Takes (These parts) f None
these_other parts f g gs e never v vs h =
    let same : part f (shapes vs) ≡ part g (forms_of gs) = h.0 ∙ ap forms_of e in
    let one : g ≡ f = cc same in
    never one

pub these_rest : (parts : Bor (List Form)) (f g : Form) (gs : List Form) → parts.now ≡ g ∷ gs → g ≡ f → (v : Initial) (vs : Initials) → Fills (These parts) (initial f v vs) ↔ (Fits f v × ((shapes vs ≡ forms_of gs) × AllFit vs))
these_rest parts f g gs e one v vs = (
  λ h.
      let same : part f (shapes vs) ≡ part g (forms_of gs) = h.0 ∙ ap forms_of e in
      let others : shapes vs ≡ forms_of gs = cc same in
      (h.1.0, (others, h.1.1)),
  λ p.
      let same : part f (shapes vs) ≡ forms_of parts.now = ap (λ (x : Form). part x (shapes vs)) (sym one) ∙ ap (λ (xs : Forms). part g xs) p.1.0 ∙ sym (ap forms_of e) in
      (same, (p.0, p.1.1)),
)

take_whole : {A : Type 0} (xs : List A) → take (length xs) xs ≡ xs
take_whole [] = refl
take_whole (x ∷ xs) = ap (λ ys. x ∷ ys) (take_whole xs)

-- a list that isn't empty is its first element before the rest
pub parted : {A : Type 0} (xs : List A) (x d : A) → 1 ≤ length xs → x ≡ get_or xs 0 d → xs ≡ x ∷ take (length xs - 1) (drop 1 xs)
parted [] x d lt is = absurd (omega (arith, lt))
parted (y ∷ ys) x d lt is =
    let one : suc (length ys) - 1 ≡ length ys = omega arith in
    sym (ap (λ (n : ℕ). x ∷ take n ys) one ∙ ap (λ zs. x ∷ zs) (take_whole ys) ∙ ap (λ z. z ∷ ys) is)

differ : (b : Bool) → true ≡ not b → b ≡ true → ⊥
differ true e s = absurd (cc e)
differ false e s = absurd (cc s)

agree : (b : Bool) → false ≡ not b → b ≡ true
agree true e = refl
agree false e = absurd (cc e)

pub forms_differ : (f g : Form) → true ≡ not (same f g) → f ≡ g → ⊥
forms_differ f g e s = differ (same f g) e ((same_decides f g).1 s)

pub forms_agree : (f g : Form) → false ≡ not (same f g) → f ≡ g
forms_agree f g e = (same_decides f g).0 (agree (same f g) e)

-- where no part is left, each aggregate has to want nothing
all_reverse : {X : Type 0} (P : X → Type 0) (xs : List X) → All P xs → All P (reverse xs)
all_reverse P [] h = h
all_reverse P (x ∷ xs) h =
    subst (λ ys. All P ys) (sym (reverse-append (x ∷ []) xs)) (All-append P (reverse xs) (x ∷ []) (all_reverse P xs (All-tail P x xs h)) (All-cons P x [] (All-head P x xs h) (All-nil P)))

fill_none : (ws : List Wanted) → All (λ w. Fills w no_initials) ws → AllFill ws (no_initials, [])
fill_none [] h = tt
fill_none (w ∷ ws) h = (All-head (λ w. Fills w no_initials) w ws h, fill_none ws (All-tail (λ w. Fills w no_initials) w ws h))

none_fill : (ws : List Wanted) → AllFill ws (no_initials, []) → All (λ w. Fills w no_initials) ws
none_fill [] h = All-nil (λ w. Fills w no_initials)
none_fill (w ∷ ws) h = All-cons (λ w. Fills w no_initials) w ws h.0 (none_fill ws h.1)

pub all_filled : (ws : List Wanted) → All (λ w. Fills w no_initials) ws → AllFill (reverse ws) (no_initials, [])
all_filled ws h = fill_none (reverse ws) (all_reverse (λ w. Fills w no_initials) ws h)

pub filled_all : (ws : List Wanted) → AllFill (reverse ws) (no_initials, []) → All (λ w. Fills w no_initials) ws
filled_all ws h =
    subst (λ (xs : List Wanted). All (λ w. Fills w no_initials) xs) (reverse-reverse ws) (all_reverse (λ w. Fills w no_initials) (reverse ws) (none_fill (reverse ws) h))

pub begins_not : (f : Form) (v : Initial) (h : InitHead) (ps : List InitPart) (ws now : List Wanted) (fits : Bool) → (h, ps) ≡ flat_of v → fits ≡ false → Begins f h ws fits now → Fits f v → ⊥
begins_not f v h ps ws now fits flat e b fit =
    subst (λ (x : Bool). Begins f h ws x now) e b (levels ps) (subst (λ (x : Initial). Fits f x) (sym (whole_value v h ps flat)) fit)

pub begins_whole : (f : Form) (v : Initial) (h : InitHead) (ps : List InitPart) (ws now : List Wanted) (fits : Bool) → (h, ps) ≡ flat_of v → fits ≡ true → ws ≡ [] → Begins f h ws fits now → Fits f v ↔ AllFill now (levels ps)
begins_whole f v h ps ws now fits flat e none b =
    let c = subst (λ (n : List Wanted). Begins f h n true now) none (subst (λ (x : Bool). Begins f h ws x now) e b) in (
      λ fit. (c (levels ps)).0 (subst (λ (x : Initial). Fits f x) (sym (whole_value v h ps flat)) fit, tt),
      λ a. subst (λ (x : Initial). Fits f x) (whole_value v h ps flat) ((c (levels ps)).1 a).0,
    )

pub ends_whole : (F : Type 0) (ws us : List Wanted) (ps : List InitPart) (b : Bool) → F ↔ AllFill (reverse ws) (levels ps) → ps ≡ [] → us ≡ ws → (IsTrue b ↔ All (λ w. Fills w no_initials) us) → IsTrue b ↔ F
ends_whole F ws us ps b i none e k = (
  λ t. i.1 (subst (λ (qs : List InitPart). AllFill (reverse ws) (levels qs)) (sym none) (all_filled ws (subst (λ (xs : List Wanted). All (λ w. Fills w no_initials) xs) e (k.0 t)))),
  λ h. k.1 (subst (λ (xs : List Wanted). All (λ w. Fills w no_initials) xs) (sym e) (filled_all ws (subst (λ (qs : List InitPart). AllFill (reverse ws) (levels qs)) none (i.0 h)))),
)
