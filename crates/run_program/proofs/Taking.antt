-- What parameters take of decimals.
use Rattle.std.proofs.Common.{◌≡◌, ◌∙◌, ◌<◌, ◌≤◌, ◌+◌, ℕ, suc, false, List, [], ◌∷◌, ◌++◌, length, drop, nat_eq, slice_get, Option, Some, None, refl, ap, sym, append_assoc, arith}
use Rattle.std.proofs.lemmas.Bool.{eqb-false}
use Rattle.std.proofs.lemmas.List.{append-nil}
use Rattle.std.proofs.lemmas.List.Elements.{All-cons, All-head, All-nil, All-tail}
use Rattle.std.specs.Prelude.{All}
use Rattle.ir_tree.specs.Formed.{IsReg}
use Rattle.ir_tree.specs.Rules.{IsInteger}
use Rattle.ir_tree.specs.declared.function.Param.{Param}
use Rattle.ir_tree.specs.declared.operand.Reg.{Reg}
use Rattle.ir_tree.specs.declared.operand.Reg.TheVariants.{Int, Ptr}
use Rattle.lto_words.specs.declared.list.Decimal.{Decimal}
use Rattle.machine_code.proofs.Lists.{there}
use Rattle.run_program.specs.Arguments.{IsTyped, argument_at}
use Rattle.run_program.specs.Starting.{argument, arguments, with_more}
use Rattle.run_program.proofs.Lists.{all_dropped, dropped_there, none_dropped}

-- ---- types

pub reg_typed : (r : Reg) → IsReg r → IsTyped r
reg_typed (Int w) h = record { positive = omega (arith, h.0); narrow = h.1 }
reg_typed Ptr h = tt

pub params_typed : (ps : List Param) → All (λ (p : Param). IsReg p.reg) ps → All (λ (p : Param). IsTyped p.reg) ps
params_typed [] h = All-nil (λ (p : Param). IsTyped p.reg)
params_typed (p ∷ ps) h =
    All-cons (λ (q : Param). IsTyped q.reg) p ps (reg_typed p.reg (All-head (λ (q : Param). IsReg q.reg) p ps h)) (params_typed ps (All-tail (λ (q : Param). IsReg q.reg) p ps h))

-- ---- one more argument

-- these numbers, and those of the rest
abbrev pub behind : List ℕ → Option (List ℕ) → Option (List ℕ)
behind ns None = None
behind ns (Some ms) = Some (ns ++ ms)

none_behind : (o : Option (List ℕ)) → behind [] o ≡ o
none_behind None = refl
none_behind (Some ms) = refl

more_behind : (ns : List ℕ) (n : ℕ) (o : Option (List ℕ)) → behind ns (with_more (Some n) o) ≡ behind (ns ++ n ∷ []) o
more_behind ns n None = refl
more_behind ns n (Some ms) = ap (λ (l : List ℕ). Some l) (sym (append_assoc ns (n ∷ []) ms))

-- what both places have
record Both (o : Option Param) (q : Option Decimal) (n : Option ℕ) : Type 0 where
  param : Param
  decimal : Decimal
  first : o ≡ Some param
  second : q ≡ Some decimal
  takes : argument param.reg decimal ≡ n

both_there : (ps : List Param) (ds : List Decimal) (i : ℕ) (n : Option ℕ) → i < length ps → length ps ≡ length ds → n ≡ argument_at (slice_get ps i) (slice_get ds i) → Both (slice_get ps i) (slice_get ds i) n
both_there ps ds i n lt long is =
    let p = there ps i lt in
    let d = there ds i (omega (arith, lt, long)) in
    record {
      param = p.0;
      decimal = d.0;
      first = p.1;
      second = d.1;
      takes = sym (is ∙ ap (λ (o : Option Param). argument_at o (slice_get ds i)) p.1 ∙ ap (λ (q : Option Decimal). argument_at (Some p.0) q) d.1);
    }

step : (ps : List Param) (ds : List Decimal) (i : ℕ) (n : Option ℕ) → Both (slice_get ps i) (slice_get ds i) n → arguments (drop i ps) (drop i ds) ≡ with_more n (arguments (drop (suc i) ps) (drop (suc i) ds))
step ps ds i n b =
    ap (λ (xs : List Param). arguments xs (drop i ds)) (dropped_there ps i b.param b.first)
    ∙ ap (λ (ys : List Decimal). arguments (b.param ∷ drop (suc i) ps) ys) (dropped_there ds i b.decimal b.second)
    ∙ ap (λ (o : Option ℕ). with_more o (arguments (drop (suc i) ps) (drop (suc i) ds))) b.takes

-- ---- a loop over the places

pub takes_first : (ps : List Param) (ds : List Decimal) (ns : List ℕ) → ns ≡ [] → behind ns (arguments (drop 0 ps) (drop 0 ds)) ≡ arguments ps ds
takes_first ps ds ns is =
    ap (λ (l : List ℕ). behind l (arguments (drop 0 ps) (drop 0 ds))) is
    ∙ none_behind (arguments (drop 0 ps) (drop 0 ds))
    ∙ ap (λ (xs : List Param). arguments xs (drop 0 ds)) (none_dropped ps)
    ∙ ap (λ (ys : List Decimal). arguments ps ys) (none_dropped ds)

module _ (ps : List Param) (ds : List Decimal) (i : ℕ) (ns : List ℕ) (long : length ps ≡ length ds) (so : behind ns (arguments (drop i ps) (drop i ds)) ≡ arguments ps ds) where
  pub takes_more : i < length ps → (n : ℕ) (more : List ℕ) → Some n ≡ argument_at (slice_get ps i) (slice_get ds i) → more ≡ ns ++ n ∷ [] → behind more (arguments (drop (i + 1) ps) (drop (i + 1) ds)) ≡ arguments ps ds
  takes_more lt n more is pushed =
      let one : suc i ≡ i + 1 = omega arith in
      ap (λ (j : ℕ). behind more (arguments (drop j ps) (drop j ds))) (sym one)
      ∙ ap (λ (l : List ℕ). behind l (arguments (drop (suc i) ps) (drop (suc i) ds))) pushed
      ∙ sym (more_behind ns n (arguments (drop (suc i) ps) (drop (suc i) ds)))
      ∙ ap (λ (o : Option (List ℕ)). behind ns o) (sym (step ps ds i (Some n) (both_there ps ds i (Some n) lt long is)))
      ∙ so

  pub takes_none : i < length ps → None ≡ argument_at (slice_get ps i) (slice_get ds i) → None ≡ arguments ps ds
  takes_none lt is = sym (ap (λ (o : Option (List ℕ)). behind ns o) (step ps ds i None (both_there ps ds i None lt long is))) ∙ so

  pub takes_all : length ps ≤ i → Some ns ≡ arguments ps ds
  takes_all past =
      ap (λ (l : List ℕ). Some l) (sym (append-nil ns))
      ∙ ap (λ (xs : List Param). behind ns (arguments xs [])) (sym (all_dropped ps i past))
      ∙ ap (λ (ys : List Decimal). behind ns (arguments (drop i ps) ys)) (sym (all_dropped ds i (omega (arith, past, long))))
      ∙ so

none_more : (o : Option ℕ) → with_more o None ≡ None
none_more None = refl
none_more (Some n) = refl

unequal : (ps : List Param) (ds : List Decimal) → (length ps ≡ length ds → ⊥) → None ≡ arguments ps ds
unequal [] [] other = absurd (other refl)
unequal [] (d ∷ ds) other = refl
unequal (p ∷ ps) [] other = refl
unequal (p ∷ ps) (d ∷ ds) other =
    sym (none_more (argument p.reg d)) ∙ ap (λ (o : Option (List ℕ)). with_more (argument p.reg d) o) (unequal ps ds (λ e. other (omega (arith, e))))

pub not_as_many : (ps : List Param) (ds : List Decimal) → nat_eq (length ps) (length ds) ≡ false → None ≡ arguments ps ds
not_as_many ps ds e = unequal ps ds (eqb-false (length ps) (length ds) e)

-- ---- what is taken

pub as_many_taken : (ps : List Param) (ds : List Decimal) (ns : List ℕ) → arguments ps ds ≡ Some ns → length ns ≡ length ps
as_many_taken [] [] ns e = let same : [] ≡ ns = cc e in sym (ap length same)
as_many_taken [] (d ∷ ds) ns e = absurd (cc e)
as_many_taken (p ∷ ps) [] ns e = absurd (cc e)
as_many_taken (p ∷ ps) (d ∷ ds) ns e = by (argument p.reg d) (arguments ps ds) (λ ms f. as_many_taken ps ds ms f) e
  where
    by : (o : Option ℕ) (q : Option (List ℕ)) → ((ms : List ℕ) → q ≡ Some ms → length ms ≡ length ps) → with_more o q ≡ Some ns → length ns ≡ length (p ∷ ps)
    by None q rest f = absurd (cc f)
    by (Some n) None rest f = absurd (cc f)
    by (Some n) (Some ms) rest f = let same : n ∷ ms ≡ ns = cc f in omega (arith, ap length same, rest ms refl)

-- only integers take arguments
pub integers_taken : (ps : List Param) (ds : List Decimal) (ns : List ℕ) → arguments ps ds ≡ Some ns → All (λ (p : Param). IsInteger p.reg) ps
integers_taken [] ds ns e = All-nil (λ (p : Param). IsInteger p.reg)
integers_taken (p ∷ ps) [] ns e = absurd (cc e)
integers_taken (p ∷ ps) (d ∷ ds) ns e = by (argument p.reg d) (arguments ps ds) refl (λ ms f. integers_taken ps ds ms f) e
  where
    integer : (r : Reg) (n : ℕ) → argument r d ≡ Some n → IsInteger r
    integer (Int w) n f = tt
    integer Ptr n f = absurd (cc f)

    by : (o : Option ℕ) (q : Option (List ℕ)) → argument p.reg d ≡ o → ((ms : List ℕ) → q ≡ Some ms → All (λ (r : Param). IsInteger r.reg) ps) → with_more o q ≡ Some ns
        → All (λ (r : Param). IsInteger r.reg) (p ∷ ps)
    by None q f rest g = absurd (cc g)
    by (Some n) None f rest g = absurd (cc g)
    by (Some n) (Some ms) f rest g = All-cons (λ (r : Param). IsInteger r.reg) p ps (integer p.reg n f) (rest ms refl)
