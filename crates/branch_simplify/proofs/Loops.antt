-- Steps of the loops that count numbers and leave entries out.
use Rattle.std.proofs.Common.{◌≡◌, ℕ, suc, ◌+◌, ◌-◌, ◌≤◌, ◌<◌, nat_eq, Bool, true, false, List, [], ◌∷◌, ◌++◌, length, get_or, drop, refl, sym, ◌∙◌, ap, subst, arith, if◌then◌else◌, append_assoc}
use Rattle.std.specs.Prelude.{nat_le}
use Rattle.std.proofs.lemmas.Bool.{eqb-true, eq-eqb, le-leb, lt-leb}
use Rattle.std.proofs.lemmas.List.{drop_more}
use Rattle.ir_tree.specs.declared.instr.Incoming.{Incoming}
use Rattle.ir_meaning.specs.Counted.{sources, times}
use Rattle.ir_meaning.proofs.Counting.{here}
use Rattle.branch_simplify.specs.Simplified.{entries_left}

times_short : (n : ℕ) (xs : List ℕ) → times n xs ≤ length xs
times_short n [] = omega arith
times_short n (x ∷ xs) = by (nat_eq x n) (times_short n xs)
  where
    by : (b : Bool) → times n xs ≤ length xs → (if b then suc (times n xs) else times n xs) ≤ suc (length xs)
    by true h = omega (arith, h)
    by false h = omega (arith, h)

-- a number that is counted so far, and stands again
pub count_fits : (numbers : List ℕ) (i count : ℕ) → i < length numbers → count + times (get_or numbers i 0) (drop i numbers) ≡ times (get_or numbers i 0) numbers → count + 1 ≤ length numbers
count_fits numbers i count lt all =
    let short : times (get_or numbers i 0) numbers ≤ length numbers = times_short (get_or numbers i 0) numbers in
    let some : 1 ≤ times (get_or numbers i 0) (drop i numbers) =
    subst (λ (l : List ℕ). 1 ≤ times (get_or numbers i 0) l) (sym (drop_more numbers i 0 lt)) (here (get_or numbers i 0) (get_or numbers i 0) (drop (i + 1) numbers) refl) in
    omega (arith, all, short, some)

module _ (es : List Incoming) (i : ℕ) (e : Incoming) (lt : i < length es) (is : e ≡ get_or es i e) where
  abbrev rest : List Incoming
  rest = drop (i + 1) es

  first : drop i es ≡ e ∷ rest
  first = drop_more es i e lt ∙ ap (λ (x : Incoming). x ∷ rest) (sym is)

  counted : (n : ℕ) → times n (sources (drop i es)) ≡ (if nat_eq e.from n then suc (times n (sources rest)) else times n (sources rest))
  counted n = ap (λ (l : List Incoming). times n (sources l)) first

  itself : times e.from (sources (drop i es)) ≡ suc (times e.from (sources rest))
  itself = counted e.from ∙ ap (λ (b : Bool). if b then suc (times e.from (sources rest)) else times e.from (sources rest)) (eq-eqb e.from e.from refl)

  pub some_left : (count : ℕ) → count ≡ times e.from (sources (drop i es)) → 1 ≤ count
  some_left count e_is = let all : times e.from (sources (drop i es)) ≡ suc (times e.from (sources rest)) = itself in omega (arith, e_is, all)

  -- the count of the entry's block, one less
  pub counted_down : (n new old count : ℕ) → count ≡ times e.from (sources (drop i es)) → old ≡ times n (sources (drop i es)) → new ≡ (if nat_eq e.from n then count - 1 else old) → new ≡ times n (sources rest)
  counted_down n new old count count_is old_is new_is = by (nat_eq e.from n) refl new_is
    where
      by : (b : Bool) → nat_eq e.from n ≡ b → new ≡ (if b then count - 1 else old) → new ≡ times n (sources rest)
      by true x h =
          let same : times e.from (sources rest) ≡ times n (sources rest) = ap (λ (m : ℕ). times m (sources rest)) (eqb-true e.from n x) in
          let all : times e.from (sources (drop i es)) ≡ suc (times e.from (sources rest)) = itself in
          omega (arith, h, count_is, same, all)
      by false x h = h ∙ old_is ∙ counted n ∙ ap (λ (b : Bool). if b then suc (times n (sources rest)) else times n (sources rest)) x

  module _ (lost : ℕ → ℕ) (rows new all : List Incoming) (gone count : ℕ) (gone_is : gone ≡ lost e.from) (count_is : count ≡ times e.from (sources (drop i es)))
      (before : rows ++ entries_left lost (drop i es) ≡ all) where
    chosen : (b : Bool) → nat_le (lost e.from) (times e.from (sources rest)) ≡ b → entries_left lost (drop i es) ≡ (if b then e ∷ entries_left lost rest else entries_left lost rest)
    chosen b x = ap (entries_left lost) first ∙ ap (λ (t : Bool). if t then e ∷ entries_left lost rest else entries_left lost rest) x

    behind : count - 1 ≡ times e.from (sources rest)
    behind = let all : times e.from (sources (drop i es)) ≡ suc (times e.from (sources rest)) = itself in omega (arith, count_is, all)

    pub entry_stays : gone ≤ count - 1 → new ≡ rows ++ e ∷ [] → new ++ entries_left lost rest ≡ all
    entry_stays le pushed =
        let few : lost e.from ≤ times e.from (sources rest) = let b : count - 1 ≡ times e.from (sources rest) = behind in omega (arith, le, gone_is, b) in
        ap (λ (l : List Incoming). l ++ entries_left lost rest) pushed ∙ append_assoc rows (e ∷ []) (entries_left lost rest)
        ∙ ap (λ (l : List Incoming). rows ++ l) (sym (chosen true (le-leb (lost e.from) (times e.from (sources rest)) few))) ∙ before

    pub entry_goes : count - 1 < gone → new ≡ rows → new ++ entries_left lost rest ≡ all
    entry_goes lt same =
        let many : times e.from (sources rest) < lost e.from = let b : count - 1 ≡ times e.from (sources rest) = behind in omega (arith, lt, gone_is, b) in
        ap (λ (l : List Incoming). l ++ entries_left lost rest) same
        ∙ ap (λ (l : List Incoming). rows ++ l) (sym (chosen false (lt-leb (lost e.from) (times e.from (sources rest)) many))) ∙ before
