-- The type of a local is what its phi or its instruction gives.
use Rattle.std.proofs.Common.{◌≡◌, ℕ, zero, suc, nat_eq, ◌⊎◌, inl, inr, Bool, true, false, ◌||◌, List, [], ◌∷◌, ◌++◌, Option, Some, None, map, option_map, refl, sym, ◌∙◌, ap, subst, if◌then◌else◌, append_assoc}
use Rattle.std.specs.Prelude.{slice_get, flat_map, filter_map}
use Rattle.std.specs.List.{cons_option}
use Rattle.std.proofs.lemmas.Bool.{cases_eq, eq-eqb, eqb-true, false≢true, ne_eqb, or_cases, or_left}
use Rattle.ir_tree.specs.Flow.{definitions, holds, locals, parameters, phi_locals, results}
use Rattle.ir_tree.specs.Formed.{Distinct, numbers}
use Rattle.ir_tree.specs.Rules.{Typing, block_typings, line_typing, result_type, typing, typings}
use Rattle.ir_tree.specs.declared.block.Block.{Block}
use Rattle.ir_tree.specs.declared.function.Function.{Function}
use Rattle.ir_tree.specs.declared.function.Param.{Param}
use Rattle.ir_tree.specs.declared.instr.Line.{Line}
use Rattle.ir_tree.specs.declared.instr.Instr.{Instr}
use Rattle.ir_tree.specs.declared.instr.Phi.{Phi}
use Rattle.ir_tree.specs.declared.operand.Reg.{Reg}
use Rattle.ir_facts.proofs.Matching.{Once, apart_left, in_left, in_right, locals_once, not_held, once_left, once_right, results_cons}

-- the list gives types to these locals, and to no others
record IsKeyed (ts : List Typing) (xs : List ℕ) : Type 0 where
  found : (x : ℕ) → holds xs x ≡ true → (more : List Typing) → typing (ts ++ more) x ≡ typing ts x
  passed : (x : ℕ) → holds xs x ≡ false → (more : List Typing) → typing (ts ++ more) x ≡ typing more x

keyed_none : IsKeyed [] []
keyed_none = record { found = λ x h more. absurd (false≢true h); passed = λ x h more. refl }

keyed_one : (y : ℕ) (t : Option Reg) → IsKeyed ((y, t) ∷ []) (y ∷ [])
keyed_one y t = record {
  found = λ x h more. let same : nat_eq y x ≡ true = here x (or_cases (nat_eq x y) false h) in
      ap (λ (b : Bool). if b then t else typing more x) same ∙ sym (ap (λ (b : Bool). if b then t else None) same);
  passed = λ x h more. ap (λ (b : Bool). if b then t else typing more x) (away x (nat_eq x y) refl h);
}
  where
    here : (x : ℕ) → (nat_eq x y ≡ true) ⊎ (false ≡ true) → nat_eq y x ≡ true
    here x (inl e) = eq-eqb y x (sym (eqb-true x y e))
    here x (inr e) = absurd (false≢true e)

    away : (x : ℕ) (b : Bool) → nat_eq x y ≡ b → (b || false) ≡ false → nat_eq y x ≡ false
    away x true q h = absurd (false≢true (sym h))
    away x false q h = elim (cases_eq y x) [ inl e ↦ absurd (false≢true (sym q ∙ eq-eqb x y (sym e))) | inr ne ↦ ne_eqb y x ne ]

module _ (ts us : List Typing) (xs ys : List ℕ) (a : IsKeyed ts xs) (b : IsKeyed us ys) where
  keyed_both : IsKeyed (ts ++ us) (xs ++ ys)
  keyed_both = record {
    found = λ x h more. moved x more ∙ found x more (holds xs x) refl h;
    passed = λ x h more. let out = not_held x xs ys h in moved x more ∙ a.passed x out.0 (us ++ more) ∙ b.passed x out.1 more;
  }
    where
      moved : (x : ℕ) (more : List Typing) → typing ((ts ++ us) ++ more) x ≡ typing (ts ++ (us ++ more)) x
      moved x more = ap (λ (l : List Typing). typing l x) (append_assoc ts us more)

      second : (x : ℕ) → holds xs x ≡ false → holds (xs ++ ys) x ≡ true → holds ys x ≡ true
      second x out h = by (holds ys x) refl
        where
          none : (zs : List ℕ) → holds zs x ≡ false → holds (zs ++ ys) x ≡ holds ys x
          none [] o = refl
          none (z ∷ zs) o = split (nat_eq x z) o (none zs)
            where
              split : (t : Bool) → (t || holds zs x) ≡ false → (holds zs x ≡ false → holds (zs ++ ys) x ≡ holds ys x) → (t || holds (zs ++ ys) x) ≡ holds ys x
              split true o' later = absurd (false≢true (sym o'))
              split false o' later = later o'

          by : (t : Bool) → holds ys x ≡ t → holds ys x ≡ true
          by t q = sym (none xs out) ∙ h

      found : (x : ℕ) (more : List Typing) (t : Bool) → holds xs x ≡ t → holds (xs ++ ys) x ≡ true → typing (ts ++ (us ++ more)) x ≡ typing (ts ++ us) x
      found x more true q h = a.found x q (us ++ more) ∙ sym (a.found x q us)
      found x more false q h = a.passed x q (us ++ more) ∙ b.found x (second x q h) more ∙ sym (a.passed x q us)

-- ---- what a table says of the locals of a part

abbrev Agrees : (ℕ → Option Reg) → List ℕ → List Typing → Type 0
Agrees t xs ts = (x : ℕ) → holds xs x ≡ true → t x ≡ typing ts x

agrees_left : (t : ℕ → Option Reg) (ts us : List Typing) (xs ys : List ℕ) → IsKeyed ts xs → Agrees t (xs ++ ys) (ts ++ us) → Agrees t xs ts
agrees_left t ts us xs ys a all x h = all x (in_left x xs ys h) ∙ a.found x h us

agrees_right : (t : ℕ → Option Reg) (ts us : List Typing) (xs ys : List ℕ) → IsKeyed ts xs → Once (xs ++ ys) → Agrees t (xs ++ ys) (ts ++ us) → Agrees t ys us
agrees_right t ts us xs ys a once all x h = all x (in_right x xs ys h) ∙ a.passed x (apart_left x xs ys (once x) h) us

one_type : (t : ℕ → Option Reg) (y : ℕ) (r : Option Reg) → Agrees t (y ∷ []) ((y, r) ∷ []) → t y ≡ r
one_type t y r all = all y (or_left (nat_eq y y) false (eq-eqb y y refl)) ∙ ap (λ (b : Bool). if b then r else None) (eq-eqb y y refl)

-- ---- parts

abbrev pub PhisTyped : (ℕ → Option Reg) → List Phi → Type 0
PhisTyped t [] = Unit {0}
PhisTyped t (p ∷ ps) = (t p.local ≡ Some p.reg) × PhisTyped t ps

abbrev pub LineTyped : (ℕ → Option Reg) → Option ℕ → Instr → Type 0
LineTyped t None i = Unit {0}
LineTyped t (Some x) i = t x ≡ result_type i

abbrev pub LinesTyped : (ℕ → Option Reg) → List Line → Type 0
LinesTyped t [] = Unit {0}
LinesTyped t (l ∷ ls) = LineTyped t l.local l.instr × LinesTyped t ls

abbrev phi_types : List Phi → List Typing
phi_types ps = map (λ p. (p.local, Some p.reg)) ps

keyed_params : (ps : List Param) → IsKeyed (map (λ p. (p.local, Some p.reg)) ps) (map (λ p. p.local) ps)
keyed_params [] = keyed_none
keyed_params (p ∷ ps) = keyed_both ((p.local, Some p.reg) ∷ []) (map (λ q. (q.local, Some q.reg)) ps) (p.local ∷ []) (map (λ q. q.local) ps) (keyed_one p.local (Some p.reg)) (keyed_params ps)

keyed_phis : (ps : List Phi) → IsKeyed (phi_types ps) (map (λ p. p.local) ps)
keyed_phis [] = keyed_none
keyed_phis (p ∷ ps) = keyed_both ((p.local, Some p.reg) ∷ []) (phi_types ps) (p.local ∷ []) (map (λ q. q.local) ps) (keyed_one p.local (Some p.reg)) (keyed_phis ps)

phis_typed : (t : ℕ → Option Reg) (ps : List Phi) → Once (map (λ p. p.local) ps) → Agrees t (map (λ p. p.local) ps) (phi_types ps) → PhisTyped t ps
phis_typed t [] once all = tt
phis_typed t (p ∷ ps) once all = (
  one_type t p.local (Some p.reg) (agrees_left t ((p.local, Some p.reg) ∷ []) (phi_types ps) (p.local ∷ []) (map (λ q. q.local) ps) (keyed_one p.local (Some p.reg)) all),
  phis_typed t ps (once_right (p.local ∷ []) (map (λ q. q.local) ps) once)
      (agrees_right t ((p.local, Some p.reg) ∷ []) (phi_types ps) (p.local ∷ []) (map (λ q. q.local) ps) (keyed_one p.local (Some p.reg)) once all),
)

abbrev line_types : Option ℕ → Instr → List Typing
line_types None i = []
line_types (Some x) i = (x, result_type i) ∷ []

abbrev line_keys : Option ℕ → List ℕ
line_keys o = cons_option o []

types_cons : (l : Line) (ls : List Line) → filter_map line_typing (l ∷ ls) ≡ line_types l.local l.instr ++ filter_map line_typing ls
types_cons l ls = by l.local
  where
    by : (o : Option ℕ) → cons_option (option_map (λ x. (x, result_type l.instr)) o) (filter_map line_typing ls) ≡ line_types o l.instr ++ filter_map line_typing ls
    by None = refl
    by (Some x) = refl

keyed_line : (o : Option ℕ) (i : Instr) → IsKeyed (line_types o i) (line_keys o)
keyed_line None i = keyed_none
keyed_line (Some x) i = keyed_one x (result_type i)

keyed_lines : (ls : List Line) → IsKeyed (filter_map line_typing ls) (results ls)
keyed_lines [] = keyed_none
keyed_lines (l ∷ ls) =
    subst (λ (ts : List Typing). IsKeyed ts (results (l ∷ ls))) (sym (types_cons l ls))
    (subst (IsKeyed (line_types l.local l.instr ++ filter_map line_typing ls)) (sym (results_cons l.local (results ls)))
    (keyed_both (line_types l.local l.instr) (filter_map line_typing ls) (line_keys l.local) (results ls) (keyed_line l.local l.instr) (keyed_lines ls)))

line_typed : (t : ℕ → Option Reg) (o : Option ℕ) (i : Instr) → Agrees t (line_keys o) (line_types o i) → LineTyped t o i
line_typed t None i all = tt
line_typed t (Some x) i all = one_type t x (result_type i) all

lines_typed : (t : ℕ → Option Reg) (ls : List Line) → Once (results ls) → Agrees t (results ls) (filter_map line_typing ls) → LinesTyped t ls
lines_typed t [] once all = tt
lines_typed t (l ∷ ls) once all =
    let once' : Once (line_keys l.local ++ results ls) = subst Once (results_cons l.local (results ls)) once in
    let all' : Agrees t (line_keys l.local ++ results ls) (line_types l.local l.instr ++ filter_map line_typing ls) =
    subst (λ (xs : List ℕ). Agrees t xs (line_types l.local l.instr ++ filter_map line_typing ls)) (results_cons l.local (results ls))
    (subst (Agrees t (results (l ∷ ls))) (types_cons l ls) all) in (
      line_typed t l.local l.instr (agrees_left t (line_types l.local l.instr) (filter_map line_typing ls) (line_keys l.local) (results ls) (keyed_line l.local l.instr) all'),
      lines_typed t ls (once_right (line_keys l.local) (results ls) once')
          (agrees_right t (line_types l.local l.instr) (filter_map line_typing ls) (line_keys l.local) (results ls) (keyed_line l.local l.instr) once' all'),
    )

keyed_block : (b : Block) → IsKeyed (block_typings b) (definitions b)
keyed_block b = keyed_both (phi_types b.phis) (filter_map line_typing b.lines) (phi_locals b) (results b.lines) (keyed_phis b.phis) (keyed_lines b.lines)

block_typed : (t : ℕ → Option Reg) (b : Block) → Once (definitions b) → Agrees t (definitions b) (block_typings b) → PhisTyped t b.phis × LinesTyped t b.lines
block_typed t b once all = (
  phis_typed t b.phis (once_left (phi_locals b) (results b.lines) once)
      (agrees_left t (phi_types b.phis) (filter_map line_typing b.lines) (phi_locals b) (results b.lines) (keyed_phis b.phis) all),
  lines_typed t b.lines (once_right (phi_locals b) (results b.lines) once)
      (agrees_right t (phi_types b.phis) (filter_map line_typing b.lines) (phi_locals b) (results b.lines) (keyed_phis b.phis) once all),
)

blocks_typed : (t : ℕ → Option Reg) (bs : List Block) → Once (flat_map definitions bs) → Agrees t (flat_map definitions bs) (flat_map block_typings bs) → (p : ℕ) (b : Block) → slice_get bs p ≡ Some b
    → PhisTyped t b.phis × LinesTyped t b.lines
blocks_typed t [] once all p b e = absurd (cc e)
blocks_typed t (d ∷ bs) once all zero b e =
    let is : d ≡ b = cc e in
    subst (λ (a : Block). PhisTyped t a.phis × LinesTyped t a.lines) is
    (block_typed t d (once_left (definitions d) (flat_map definitions bs) once)
    (agrees_left t (block_typings d) (flat_map block_typings bs) (definitions d) (flat_map definitions bs) (keyed_block d) all))
blocks_typed t (d ∷ bs) once all (suc p) b e =
    blocks_typed t bs (once_right (definitions d) (flat_map definitions bs) once)
    (agrees_right t (block_typings d) (flat_map block_typings bs) (definitions d) (flat_map definitions bs) (keyed_block d) once all) p b e

pub types_of_block : (f : Function) → Distinct (locals f ++ numbers f) → (p : ℕ) (b : Block) → slice_get f.blocks p ≡ Some b → PhisTyped (typing (typings f)) b.phis × LinesTyped (typing (typings f)) b.lines
types_of_block f once p b e =
    blocks_typed (typing (typings f)) f.blocks (once_right (parameters f) (flat_map definitions f.blocks) (locals_once f once))
    (agrees_right (typing (typings f)) (map (λ q. (q.local, Some q.reg)) f.params) (flat_map block_typings f.blocks) (parameters f) (flat_map definitions f.blocks) (keyed_params f.params) (locals_once f once)
    (λ x h. refl)) p b e
