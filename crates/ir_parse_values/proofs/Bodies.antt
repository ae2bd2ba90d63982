-- Bodies of blocks, a line at a time.
use Rattle.std.proofs.Common.{◌≡◌, refl, sym, ap, ◌∙◌, ℕ, ◌+◌, ◌<◌, List, [], ◌∷◌, ◌++◌, Option, None, Some, Result, Ok, Err, append_assoc, length, drop, get_or}
use Rattle.std.proofs.lemmas.List.{append-nil}
use Rattle.ir_parse_parts.specs.declared.raw.WrittenLine as raw_line
use Rattle.ir_tree.specs.declared.instr.Instr.{Instr}
use Rattle.ir_tree.specs.declared.instr.Line.{Line}
use Rattle.ir_tree.specs.declared.instr.Phi.{Phi}
use Rattle.ir_parse_values.specs.declared.block.Body.{Body}
use Rattle.ir_parse_names.specs.declared.fault.Fault.{Fault}
use Rattle.ir_parse_names.specs.Bodies.{instr_in, local_at, behind_line, lines_in}
use Rattle.ir_parse_values.specs.Blocks.{as_phi, phis_of, rest_of, phi_before, lines_behind}
use Rattle.ir_parse_values.specs.BodyLaws.{placed, placed_first, placed_in, followed, followed_in}
use Rattle.ir_parse_names.specs.Locals.{LocalTable}
use Rattle.ir_parse_names.specs.Resolving.{◌>>=◌}
use Rattle.ir_parse_names.specs.Types.{Types}
use Rattle.ir_parse_names.proofs.Each.{here}

abbrev pub onto : Body → Result (List Line) Fault → Result Body Fault
onto b r = r >>= λ more. Ok (followed b more)

first_more : (phis : List Phi) (l : Line) (more : List Line) (o : Option Phi) → as_phi l ≡ o → followed (placed_first phis l o) more ≡ record { phis = phis ++ phi_before o (phis_of more); lines = lines_behind o (l ∷ more) (rest_of more) }
first_more phis l more None e = ap (λ (ps : List Phi). record { phis = ps; lines = l ∷ more }) (sym (append-nil phis))
first_more phis l more (Some p) e = ap (λ (ps : List Phi). record { phis = ps; lines = rest_of more }) (append_assoc phis (p ∷ []) (phis_of more))

in_more : (phis : List Phi) (lines : List Line) (l : Line) (more : List Line) → followed (placed_in phis lines l) more ≡ followed_in phis lines (l ∷ more)
in_more phis [] l more = first_more phis l more (as_phi l) refl
in_more phis (k ∷ ks) l more = ap (λ (ls : List Line). record { phis = phis; lines = ls }) (append_assoc (k ∷ ks) (l ∷ []) more)

-- a line is placed before the others
pub placed_more : (b : Body) (l : Line) (more : List Line) → followed (placed b l) more ≡ followed b (l ∷ more)
placed_more b l more = in_more b.phis b.lines l more

regroup : (b : Body) (l : Line) (r : Result (List Line) Fault) → onto b (r >>= λ more. Ok (l ∷ more)) ≡ onto (placed b l) r
regroup b l (Ok more) = ap (λ (z : Body). Ok z) (sym (placed_more b l more))
regroup b l (Err e) = refl

abbrev ok : {A : Type 0} → A → Result A Fault
ok a = Ok a

abbrev pub or_else : {A : Type 0} → A → Result A Fault → A
or_else a (Ok b) = b
or_else a (Err e) = a

module _ (types : Types) (locals : LocalTable) where
  makes : (b : Body) (next : ℕ) (x : raw_line.WrittenLine) (xs : List raw_line.WrittenLine) (i : Instr) → instr_in types locals x.instr ≡ Ok i
      → onto b (lines_in types locals next (x ∷ xs)) ≡ onto (placed b (record { local = local_at next x; instr = i })) (lines_in types locals (behind_line next x) xs)
  makes b next x xs i h =
      ap (λ (r : Result Instr Fault). onto b (r >>= λ j. lines_in types locals (behind_line next x) xs >>= λ more. Ok (record { local = local_at next x; instr = j } ∷ more))) h
      ∙ regroup b (record { local = local_at next x; instr = i }) (lines_in types locals (behind_line next x) xs)

  -- one more line is placed, and the others follow
  pub goes_on : (b b2 : Body) (next next2 : ℕ) (lines : List raw_line.WrittenLine) (k : ℕ) (x : raw_line.WrittenLine) (i : Instr) (n : Option ℕ) → k < length lines → x ≡ get_or lines k x → instr_in types locals x.instr ≡ Ok i
      → n ≡ local_at next x → ok (placed b (record { local = n; instr = i })) ≡ ok b2 → ok (behind_line next x) ≡ ok next2
      → onto b (lines_in types locals next (drop k lines)) ≡ onto b2 (lines_in types locals next2 (drop (k + 1) lines))
  goes_on b b2 next next2 lines k x i n at is h named put behind =
      ap (λ ls. onto b (lines_in types locals next ls)) (here lines k x at is)
      ∙ makes b next x (drop (k + 1) lines) i h
      ∙ ap (λ (c : Body). onto c (lines_in types locals (behind_line next x) (drop (k + 1) lines))) (ap (λ m. placed b (record { local = m; instr = i })) (sym named) ∙ ap (or_else b2) put)
      ∙ ap (λ m. onto b2 (lines_in types locals m (drop (k + 1) lines))) (ap (or_else next2) behind)

  -- so where the line is resolved as it is placed
  pub continues : (b b2 : Body) (next next2 : ℕ) (lines : List raw_line.WrittenLine) (k : ℕ) (x : raw_line.WrittenLine) (r : Result Instr Fault) → k < length lines → x ≡ get_or lines k x → instr_in types locals x.instr ≡ r
      → (r >>= λ i. ok (placed b (record { local = local_at next x; instr = i }))) ≡ ok b2 → ok (behind_line next x) ≡ ok next2
      → onto b (lines_in types locals next (drop k lines)) ≡ onto b2 (lines_in types locals next2 (drop (k + 1) lines))
  continues b b2 next next2 lines k x (Ok i) at is h put behind = goes_on b b2 next next2 lines k x i (local_at next x) at is h refl put behind
  continues b b2 next next2 lines k x (Err e) at is h put behind = absurd (cc put)
