-- Blocks that stay, and blocks that go: places, numbers, definitions and types.
use Rattle.std.proofs.Common.{◌≡◌, ℕ, zero, suc, ◌+◌, ◌≤◌, nat_eq, Bool, true, false, List, [], ◌∷◌, ◌++◌, Option, Some, None, map, refl, sym, ◌∙◌, ap, subst, arith, if◌then◌else◌, append_assoc}
use Rattle.std.specs.Prelude.{slice_get, flat_map, filter_map, option_map}
use Rattle.std.specs.List.{cons_option}
use Rattle.std.proofs.lemmas.Bool.{eqb-true, eq-eqb, ne_eqb}
use Rattle.ir_tree.specs.Flow.{definitions, phi_locals, results}
use Rattle.ir_tree.specs.Rules.{Typing, block_typings, line_typing, result_type, typing}
use Rattle.ir_tree.specs.declared.block.Block.{Block}
use Rattle.ir_tree.specs.declared.instr.Incoming.{Incoming}
use Rattle.ir_tree.specs.declared.instr.Line.{Line}
use Rattle.ir_tree.specs.declared.instr.Phi.{Phi}
use Rattle.ir_tree.specs.declared.operand.Reg.{Reg}
use Rattle.ir_edit.proofs.Tally.{tally, tally_both}
use Rattle.ir_meaning.specs.Counted.{sources, times}
use Rattle.ir_meaning.proofs.Counting.{numbers_in}
use Rattle.block_trim.specs.Trimmed.{block_in, blocks_in, entries_in, phi_in}

-- ---- types

pub typing_front : (x : ℕ) (ts us vs : List Typing) → typing us x ≡ typing vs x → typing (ts ++ us) x ≡ typing (ts ++ vs) x
typing_front x [] us vs h = h
typing_front x (t ∷ ts) us vs h = ap (λ (o : Option Reg). if nat_eq t.0 x then t.1 else o) (typing_front x ts us vs h)

-- a local that isn't counted is another
other : (x y n : ℕ) → (if nat_eq x y then 1 else 0) + n ≡ 0 → nat_eq y x ≡ false
other x y n h = ne_eqb y x (λ s. by (nat_eq x y) (eq-eqb x y (sym s)) h)
  where
    by : (b : Bool) → b ≡ true → (if b then 1 else 0) + n ≡ 0 → ⊥
    by true e h = omega (arith, h)
    by false e h = absurd cc

skipped : (x : ℕ) (t : Typing) (us vs : List Typing) → nat_eq t.0 x ≡ false → typing us x ≡ typing vs x → typing (t ∷ us) x ≡ typing vs x
skipped x t us vs e h = ap (λ (b : Bool). if b then t.1 else typing us x) e ∙ h

phis_untyped : (x : ℕ) (ps : List Phi) (rest : List Typing) → tally x (map (λ p. p.local) ps) ≡ 0 → typing (map {B = Typing} (λ p. (p.local, Some p.reg)) ps ++ rest) x ≡ typing rest x
phis_untyped x [] rest h = refl
phis_untyped x (p ∷ ps) rest h =
    skipped x (p.local, Some p.reg) (map {B = Typing} (λ p. (p.local, Some p.reg)) ps ++ rest) rest (other x p.local (tally x (map (λ p. p.local) ps)) h) (phis_untyped x ps rest (omega (arith, h)))

lines_untyped : (x : ℕ) (ls : List Line) (rest : List Typing) → tally x (results ls) ≡ 0 → typing (filter_map line_typing ls ++ rest) x ≡ typing rest x
lines_untyped x [] rest h = refl
lines_untyped x (l ∷ ls) rest h = by l.local h (lines_untyped x ls rest)
  where
    by : (o : Option ℕ) → tally x (cons_option o (results ls)) ≡ 0 → (tally x (results ls) ≡ 0 → typing (filter_map line_typing ls ++ rest) x ≡ typing rest x)
        → typing (cons_option (option_map (λ y. (y, result_type l.instr)) o) (filter_map line_typing ls) ++ rest) x ≡ typing rest x
    by None h more = more h
    by (Some y) h more = skipped x (y, result_type l.instr) (filter_map line_typing ls ++ rest) rest (other x y (tally x (results ls)) h) (more (omega (arith, h)))

module _ (reached : ℕ → Bool) where
  -- ---- entries

  pub reached_entries : (n : ℕ) → reached n ≡ true → (es : List Incoming) → times n (sources (entries_in reached es)) ≡ times n (sources es)
  reached_entries n r [] = refl
  reached_entries n r (e ∷ es) = by (nat_eq e.from n) (reached e.from) refl refl (reached_entries n r es)
    where
      by : (t u : Bool) → nat_eq e.from n ≡ t → reached e.from ≡ u → times n (sources (entries_in reached es)) ≡ times n (sources es)
          → times n (sources (if u then e ∷ entries_in reached es else entries_in reached es)) ≡ (if t then suc (times n (sources es)) else times n (sources es))
      by true true x y h = ap (λ (b : Bool). if b then suc (times n (sources (entries_in reached es))) else times n (sources (entries_in reached es))) x ∙ ap suc h
      by true false x y h = let clash : false ≡ true = sym y ∙ ap reached (eqb-true e.from n x) ∙ r in absurd (cc clash)
      by false true x y h = ap (λ (b : Bool). if b then suc (times n (sources (entries_in reached es))) else times n (sources (entries_in reached es))) x ∙ h
      by false false x y h = h

  pub was_there : (es : List Incoming) (i : ℕ) (d : Incoming) → slice_get (entries_in reached es) i ≡ Some d → (j : ℕ) × (slice_get es j ≡ Some d)
  was_there [] i d e = (i, e)
  was_there (x ∷ es) i d e = by (reached x.from) i e (λ j. was_there es j d)
    where
      further : (j : ℕ) × (slice_get es j ≡ Some d) → (j : ℕ) × (slice_get (x ∷ es) j ≡ Some d)
      further (j, g) = (suc j, g)

      by : (b : Bool) (i : ℕ) → slice_get (if b then x ∷ entries_in reached es else entries_in reached es) i ≡ Some d
          → ((k : ℕ) → slice_get (entries_in reached es) k ≡ Some d → (j : ℕ) × (slice_get es j ≡ Some d)) → (j : ℕ) × (slice_get (x ∷ es) j ≡ Some d)
      by true zero e more = (0, e)
      by true (suc i) e more = further (more i e)
      by false i e more = further (more i e)

  -- ---- places

  -- a block that stands there stood before, and is in the set
  abbrev pub Stood : List Block → Block → Type 0
  Stood bs c = (i : ℕ) × (b : Block) × (slice_get bs i ≡ Some b) × (reached b.number ≡ true) × (c ≡ block_in reached b)

  pub stood : (bs : List Block) (j : ℕ) (c : Block) → slice_get (blocks_in reached bs) j ≡ Some c → Stood bs c
  stood [] j c e = absurd cc
  stood (b ∷ bs) j c e = by (reached b.number) refl j e (λ k. stood bs k c)
    where
      further : Stood bs c → Stood (b ∷ bs) c
      further (i, a, at, r, is) = (suc i, a, at, r, is)

      by : (t : Bool) → reached b.number ≡ t → (j : ℕ) → slice_get (if t then block_in reached b ∷ blocks_in reached bs else blocks_in reached bs) j ≡ Some c
          → ((k : ℕ) → slice_get (blocks_in reached bs) k ≡ Some c → Stood bs c) → Stood (b ∷ bs) c
      by true r zero e more = let same : block_in reached b ≡ c = cc e in (0, b, refl, r, sym same)
      by true r (suc j) e more = further (more j e)
      by false r j e more = further (more j e)

  pub stays : (bs : List Block) (i : ℕ) (b : Block) → slice_get bs i ≡ Some b → reached b.number ≡ true → (j : ℕ) × (slice_get (blocks_in reached bs) j ≡ Some (block_in reached b))
  stays [] i b e r = absurd cc
  stays (x ∷ bs) zero b e r =
      let same : x ≡ b = cc e in (
        0,
        subst (λ (y : Block). slice_get (if reached y.number then block_in reached y ∷ blocks_in reached bs else blocks_in reached bs) 0 ≡ Some (block_in reached b)) (sym same)
            (ap (λ (t : Bool). slice_get (if t then block_in reached b ∷ blocks_in reached bs else blocks_in reached bs) 0) r),
      )
  stays (x ∷ bs) (suc i) b e r = by (reached x.number) (stays bs i b e r)
    where
      by : (t : Bool) → (j : ℕ) × (slice_get (blocks_in reached bs) j ≡ Some (block_in reached b))
          → (j : ℕ) × (slice_get (if t then block_in reached x ∷ blocks_in reached bs else blocks_in reached bs) j ≡ Some (block_in reached b))
      by true (j, at) = (suc j, at)
      by false (j, at) = (j, at)

  -- ---- definitions

  locals_of_phis : (ps : List Phi) → map (λ p. p.local) (map (phi_in reached) ps) ≡ map (λ p. p.local) ps
  locals_of_phis [] = refl
  locals_of_phis (p ∷ ps) = ap (λ (l : List ℕ). p.local ∷ l) (locals_of_phis ps)

  pub phi_locals_stay : (b : Block) → phi_locals (block_in reached b) ≡ phi_locals b
  phi_locals_stay b = locals_of_phis b.phis

  pub definitions_stay : (b : Block) → definitions (block_in reached b) ≡ definitions b
  definitions_stay b = ap (λ (l : List ℕ). l ++ results b.lines) (phi_locals_stay b)

  types_of_phis : (ps : List Phi) → map {B = Typing} (λ p. (p.local, Some p.reg)) (map (phi_in reached) ps) ≡ map {B = Typing} (λ p. (p.local, Some p.reg)) ps
  types_of_phis [] = refl
  types_of_phis (p ∷ ps) = ap (λ (l : List Typing). (p.local, Some p.reg) ∷ l) (types_of_phis ps)

  typings_stay : (b : Block) → block_typings (block_in reached b) ≡ block_typings b
  typings_stay b = ap (λ (l : List Typing). l ++ filter_map line_typing b.lines) (types_of_phis b.phis)

  -- no local and no number is new
  pub defined_less : (x : ℕ) (bs : List Block) → tally x (flat_map definitions (blocks_in reached bs)) ≤ tally x (flat_map definitions bs)
  defined_less x [] = omega arith
  defined_less x (b ∷ bs) = by (reached b.number) (defined_less x bs)
    where
      all : tally x (definitions b ++ flat_map definitions bs) ≡ tally x (definitions b) + tally x (flat_map definitions bs)
      all = tally_both x (definitions b) (flat_map definitions bs)

      by : (t : Bool) → tally x (flat_map definitions (blocks_in reached bs)) ≤ tally x (flat_map definitions bs)
          → tally x (flat_map definitions (if t then block_in reached b ∷ blocks_in reached bs else blocks_in reached bs)) ≤ tally x (definitions b ++ flat_map definitions bs)
      by true h =
          let some : tally x (definitions (block_in reached b) ++ flat_map definitions (blocks_in reached bs)) ≡ tally x (definitions b) + tally x (flat_map definitions (blocks_in reached bs)) =
          tally_both x (definitions (block_in reached b)) (flat_map definitions (blocks_in reached bs)) ∙ ap (λ (l : List ℕ). tally x l + tally x (flat_map definitions (blocks_in reached bs))) (definitions_stay b) in
          omega (arith, h, all, some)
      by false h = omega (arith, h, all)

  pub numbers_less : (x : ℕ) (bs : List Block) → tally x (numbers_in (blocks_in reached bs)) ≤ tally x (numbers_in bs)
  numbers_less x [] = omega arith
  numbers_less x (b ∷ bs) = by (reached b.number) (numbers_less x bs)
    where
      by : (t : Bool) → tally x (numbers_in (blocks_in reached bs)) ≤ tally x (numbers_in bs)
          → tally x (numbers_in (if t then block_in reached b ∷ blocks_in reached bs else blocks_in reached bs)) ≤ (if nat_eq x b.number then 1 else 0) + tally x (numbers_in bs)
      by true h = omega (arith, h)
      by false h = omega (arith, h)

  -- a local that no block lost keeps its type
  pub types_stay : (x : ℕ) (bs : List Block) → tally x (flat_map definitions bs) ≡ tally x (flat_map definitions (blocks_in reached bs))
      → typing (flat_map block_typings (blocks_in reached bs)) x ≡ typing (flat_map block_typings bs) x
  types_stay x [] h = refl
  types_stay x (b ∷ bs) h = by (reached b.number) h (types_stay x bs)
    where
      all : tally x (definitions b ++ flat_map definitions bs) ≡ tally x (definitions b) + tally x (flat_map definitions bs)
      all = tally_both x (definitions b) (flat_map definitions bs)

      less : tally x (flat_map definitions (blocks_in reached bs)) ≤ tally x (flat_map definitions bs)
      less = defined_less x bs

      by : (t : Bool) → tally x (definitions b ++ flat_map definitions bs) ≡ tally x (flat_map definitions (if t then block_in reached b ∷ blocks_in reached bs else blocks_in reached bs))
          → (tally x (flat_map definitions bs) ≡ tally x (flat_map definitions (blocks_in reached bs)) → typing (flat_map block_typings (blocks_in reached bs)) x ≡ typing (flat_map block_typings bs) x)
          → typing (flat_map block_typings (if t then block_in reached b ∷ blocks_in reached bs else blocks_in reached bs)) x ≡ typing (block_typings b ++ flat_map block_typings bs) x
      by true h more =
          let some : tally x (definitions (block_in reached b) ++ flat_map definitions (blocks_in reached bs)) ≡ tally x (definitions b) + tally x (flat_map definitions (blocks_in reached bs)) =
          tally_both x (definitions (block_in reached b)) (flat_map definitions (blocks_in reached bs)) ∙ ap (λ (l : List ℕ). tally x l + tally x (flat_map definitions (blocks_in reached bs))) (definitions_stay b) in
          ap (λ (l : List Typing). typing (l ++ flat_map block_typings (blocks_in reached bs)) x) (typings_stay b)
          ∙ typing_front x (block_typings b) (flat_map block_typings (blocks_in reached bs)) (flat_map block_typings bs) (more (omega (arith, h, all, some)))
      by false h more =
          let parts : tally x (phi_locals b ++ results b.lines) ≡ tally x (phi_locals b) + tally x (results b.lines) = tally_both x (phi_locals b) (results b.lines) in
          let none : tally x (definitions b) ≡ 0 = omega (arith, h, all, less) in
          more (omega (arith, h, all, less))
          ∙ sym (lines_untyped x b.lines (flat_map block_typings bs) (omega (arith, none, parts)))
          ∙ sym (phis_untyped x b.phis (filter_map line_typing b.lines ++ flat_map block_typings bs) (omega (arith, none, parts)))
          ∙ ap (λ (l : List Typing). typing l x) (sym (append_assoc (map {B = Typing} (λ p. (p.local, Some p.reg)) b.phis) (filter_map line_typing b.lines) (flat_map block_typings bs)))
