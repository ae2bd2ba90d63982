-- Whole modules tell a token that is left out in some places as such exactly where one that it stands for goes on.
use Rattle.std.proofs.Common.{◌≡◌, ℕ, zero, suc, ◌<◌, ◌-◌, nat_eq, Bool, true, false, cond, Option, ◌||◌, not, List, [], ◌∷◌, ◌++◌, length, Result, Ok, Err, refl, sym, ap, subst, ◌∙◌, append_assoc, arith, ◌⊎◌, inl, inr}
use Rattle.std.proofs.lemmas.List.{append-nil, length-append}
use Rattle.std.specs.List.{fold}
use Rattle.ir_lex.specs.TokenKinds.{number}
use Rattle.ir_lex.specs.Tok.{Tok}
use Rattle.ir_lex.specs.declared.token_kind.TokenKind.TheVariants as kinds
use Rattle.ir_lex.specs.declared.token_kind.TokenKind.{TokenKind}
use Rattle.ir_parse_parts.proofs.Composed.{cons_is, cut_is, reads, reads_is, wrong, wrong_is}
use Rattle.ir_parse_parts.proofs.Rules.{within_of}
use Rattle.ir_parse_parts.specs.Alphabet.{among, contains}
use Rattle.ir_parse_parts.specs.Chained.{chain_within, stops_here}
use Rattle.ir_parse_parts.specs.Faults.{Extends}
use Rattle.ir_parse_parts.specs.Forms as form
use Rattle.ir_parse_parts.specs.Lawful.{Broad, IsBound, UpTo, ends}
use Rattle.ir_parse_parts.specs.Readers.{Reader, done, ended, fault_at, follow, ◌>>=◌, pick, whole_of}
use Rattle.ir_parse_parts.specs.declared.fault.Fault.{Fault}
use Rattle.ir_parse_parts.specs.declared.fault.TokenFault.TheVariants.{Syntax, Profile, Number, Limit}
use Rattle.ir_parse_parts.specs.declared.fault.TokenFault.{TokenFault}
use Rattle.ir_parse_heads.specs.AttributesAt.{HEAD}
use Rattle.ir_parse_parts.specs.Classes.{tokens, refusal}
use Rattle.ir_parse_heads.specs.FunctionHeads.{NUMBERED, name_refusal}
use Rattle.ir_parse_parts.specs.Metadata.{META}
use Rattle.ir_parse_heads.specs.Targets.{STRING}
use Rattle.ir_parse_parts.specs.declared.places.Before.TheVariants as befores
use Rattle.ir_parse_parts.specs.declared.places.Before.{Before}
use Rattle.ir_parse_parts.specs.declared.places.Position.{Position}
use Rattle.ir_parse_parts.specs.declared.raw.Item.{Item}
use Rattle.ir_parse_bodies.specs.BlocksAt.{definition_at}
use Rattle.ir_parse_globals.specs.Variables.{NAMES}
use Rattle.ir_parse_globals.specs.VariablesAt.{variable_line_at}
use Rattle.ir_parse.specs.ItemForms.{any_items, any_piece, anywhere, at_place, keep}
use Rattle.ir_parse.specs.ItemFormsAt.{DECLARE, ITEM, NAMING, beginnings, begins_there, beside_at, declaration_at, first_place, items_at, kept_at, metadata_there_at, named_at, naming_at, other_at, piece_at, plainly_at, there_at}
use Rattle.ir_parse.specs.Modules.{FURTHER_PARAMETERS, GLOBAL_NAMES, any_module, item_refusal, module_of}
use Rattle.ir_parse.proofs.ItemRules.{ANY, items_rule, there_rule}
use Rattle.ir_parse.specs.NamedCalls.{in_module}
use Rattle.ir_parse_operands.specs.ShapeForms.{OPEN_BRACE}
use Rattle.ir_parse.proofs.Exchanged.{differ, not_both, only_marker, only_number, only_string, Goes, IsTold, NotTold, Outcome, OutcomeAt, Stays, is_angled, SOMEWHERE, STAND_INS, Stuck, Swaps, placed_too, value_loosely, taken, apart, passed, taken_first}
use Rattle.ir_parse.proofs.ExchangedItems.{NUMBERED_NAME, STARTS, TYPES, all_items_at, all_items_exchanged, in_items, named_with, naming_with, numbered_is, numbered_told, piece_exchanged, piece_there, piece_with, starts_there, unnamed_refuses, within_at}

-- ---- at each token that begins an item the two are the same

pub split : (xs ys : List ℕ) (n : ℕ) → contains (xs ++ ys) n ≡ true → (contains xs n ≡ true) ⊎ (contains ys n ≡ true)
split [] ys n h = inr h
split (x ∷ xs) ys n h = by_test (nat_eq n x) (λ d. split xs ys n d) h
  where
    by_test : (b : Bool) → (contains (xs ++ ys) n ≡ true → (contains xs n ≡ true) ⊎ (contains ys n ≡ true)) → b || contains (xs ++ ys) n ≡ true → (b || contains xs n ≡ true) ⊎ (contains ys n ≡ true)
    by_test true again h = inl refl
    by_test false again h = again h

same : (n m : ℕ) → nat_eq n m ≡ true → n ≡ m
same n m h = grind arith

both : true ≡ false → ⊥
both e = cc

-- without a name that is a number
unnumbered : (bs : List ℕ) (n : ℕ) → contains NUMBERED_NAME n ≡ false → contains (NUMBERED_NAME ++ bs) n ≡ contains bs n
unnumbered bs n e = by_test (nat_eq n (number kinds.NumberedGlobal)) e
  where
    by_test : (b : Bool) → b || false ≡ false → b || contains bs n ≡ contains bs n
    by_test true e = absurd cc
    by_test false e = refl

module _ (room : ℕ) where
  naming_same : (t : Tok) (ts : List Tok) → among tokens NUMBERED_NAME t ≡ false → naming_with room (t ∷ ts) ≡ naming_at room (t ∷ ts)
  naming_same t ts e = ap (λ (b : Bool). cond b (kept_at variable_line_at (t ∷ ts)) (pick (among tokens DECLARE) (declaration_at room) (kept_at (definition_at room)) (t ∷ ts))) (unnumbered NAMES (number t.kind) e)

  named_same : (names : ℕ) (t : Tok) (ts : List Tok) → among tokens NUMBERED_NAME t ≡ false → named_with room names (t ∷ ts) ≡ named_at room names (t ∷ ts)
  unfolding named_at
  named_same names t ts e = ap (λ r. follow r (λ x. done (at_place (names - 1) x))) (naming_same t ts e)

  named_within_same : (names : ℕ) (t : Tok) (ts : List Tok) (b : Bool) → among tokens NUMBERED_NAME t ≡ false → cond b (fault_at Limit) (named_with room names) (t ∷ ts) ≡ cond b (fault_at Limit) (named_at room names) (t ∷ ts)
  named_within_same names t ts true e = refl
  named_within_same names t ts false e = named_same names t ts e

  piece_same : (before : Before) (names : ℕ) (t : Tok) (ts : List Tok) → among tokens NUMBERED_NAME t ≡ false → piece_with room before names (t ∷ ts) ≡ piece_at room before names (t ∷ ts)
  unfolding piece_at
  piece_same before names t ts e =
      passed NUMBERED_NAME (named_with room names) (within_at room before names) t ts e
      ∙ ap (λ (b : Bool). cond b (cond (nat_eq names 0) (fault_at Limit) (named_with room names) (t ∷ ts)) (other_at before names (t ∷ ts))) (unnumbered NAMING (number t.kind) e)
      ∙ ap (λ r. cond (among tokens NAMING t) r (other_at before names (t ∷ ts))) (named_within_same names t ts (nat_eq names 0) e)

  -- ---- what else is told there

  beside_refuses : (before : Before) (t : Tok) (ts : List Tok) → plainly_at before (t ∷ ts) ≡ fault_at (refusal (number t.kind)) (t ∷ ts) → contains TYPES (number t.kind) ≡ true → beside_at before (t ∷ ts) ≡ fault_at (refusal (number t.kind)) (t ∷ ts)
  unfolding beside_at
  beside_refuses before t ts d e = passed META (metadata_there_at before) (plainly_at before) t ts (apart TYPES META refl (number t.kind) e) ∙ d

  other_refuses : (before : Before) (names : ℕ) (t : Tok) (ts : List Tok) → plainly_at before (t ∷ ts) ≡ fault_at (refusal (number t.kind)) (t ∷ ts) → contains TYPES (number t.kind) ≡ true → other_at before names (t ∷ ts) ≡ fault_at (refusal (number t.kind)) (t ∷ ts)
  unfolding other_at
  other_refuses before names t ts d e = ap (λ r. follow r (λ x. done (at_place names x))) (beside_refuses before t ts d e)

  plain_name : (n : ℕ) → contains TYPES n ≡ true → refusal n ≡ name_refusal n
  plain_name n e = sym (ap (λ (b : Bool). cond b Profile (refusal n)) (apart TYPES NUMBERED refl n e))

  type_refuses : (before : Before) (names : ℕ) (t : Tok) (ts : List Tok) → plainly_at before (t ∷ ts) ≡ fault_at (refusal (number t.kind)) (t ∷ ts) → contains TYPES (number t.kind) ≡ true → piece_with room before names (t ∷ ts) ≡ fault_at (item_refusal t) (t ∷ ts)
  type_refuses before names t ts d e =
      passed NUMBERED_NAME (named_with room names) (within_at room before names) t ts (apart TYPES NUMBERED_NAME refl (number t.kind) e)
      ∙ passed (NUMBERED_NAME ++ NAMING) (cond (nat_eq names 0) (fault_at Limit) (named_with room names)) (other_at before names) t ts (apart TYPES (NUMBERED_NAME ++ NAMING) refl (number t.kind) e)
      ∙ other_refuses before names t ts d e ∙ ap (λ (k : TokenFault). fault_at k (t ∷ ts)) (plain_name (number t.kind) e)

  number_refuses : (before : Before) (names : ℕ) (t : Tok) (ts : List Tok) → contains NUMBERED_NAME (number t.kind) ≡ true → piece_with room before names (t ∷ ts) ≡ fault_at (item_refusal t) (t ∷ ts)
  number_refuses before names t ts e =
      taken_first NUMBERED_NAME (named_with room names) (within_at room before names) t ts e ∙ numbered_told room names t ts e ∙ ap (λ (k : TokenFault). fault_at k (t ∷ ts)) (sym (numbered_is (number t.kind) e))

  extra_told : (before : Before) (names : ℕ) (t : Tok) (ts : List Tok) → contains (STARTS before) (number t.kind) ≡ true → contains (beginnings before) (number t.kind) ≡ false → piece_with room before names (t ∷ ts) ≡ fault_at (item_refusal t) (t ∷ ts)
  extra_told befores.Declaration names t ts s b = elim (split NUMBERED_NAME (HEAD ++ ITEM) (number t.kind) s) [ inl e ↦ number_refuses befores.Declaration names t ts e | inr e ↦ absurd (both (sym e ∙ b)) ]
  extra_told befores.Item names t ts s b = elim (split NUMBERED_NAME (TYPES ++ ITEM) (number t.kind) s) [
    | inl e ↦ number_refuses befores.Item names t ts e
    | inr r ↦ elim (split TYPES ITEM (number t.kind) r) [ inl e ↦ type_refuses befores.Item names t ts (unnamed_refuses t ts e) e | inr e ↦ absurd (both (sym e ∙ b)) ]
  ]
  extra_told befores.Name names t ts s b = elim (split NUMBERED_NAME (TYPES ++ ITEM) (number t.kind) s) [
    | inl e ↦ number_refuses befores.Name names t ts e
    | inr r ↦ elim (split TYPES ITEM (number t.kind) r) [ inl e ↦ type_refuses befores.Name names t ts (unnamed_refuses t ts e) e | inr e ↦ absurd (both (sym e ∙ b)) ]
  ]

  no_number : (before : Before) (n : ℕ) → contains (beginnings before) n ≡ true → contains NUMBERED_NAME n ≡ false
  no_number befores.Item n e = apart (beginnings befores.Item) NUMBERED_NAME refl n e
  no_number befores.Declaration n e = apart (beginnings befores.Declaration) NUMBERED_NAME refl n e
  no_number befores.Name n e = apart (beginnings befores.Name) NUMBERED_NAME refl n e

  starts_too : (before : Before) (n : ℕ) → contains (beginnings before) n ≡ true → contains (STARTS before) n ≡ true
  starts_too befores.Item n e = within_of (beginnings befores.Item) (STARTS befores.Item) refl n e
  starts_too befores.Declaration n e = within_of (beginnings befores.Declaration) (STARTS befores.Declaration) refl n e
  starts_too befores.Name n e = within_of (beginnings befores.Name) (STARTS befores.Name) refl n e

  -- ---- the whole

  abbrev finished : (List (Option Item) → List Item) → Result (List (Option Item) × List Tok) Fault → Result (List Item) Fault
  finished k r = whole_of item_refusal (follow r (λ all. done (k all)))

  abbrev all_within : ℕ → Position → Reader Tok (List (Option Item))
  all_within = chain_within anywhere starts_there (piece_there room)

  abbrev items_within : ℕ → Position → Reader Tok (List (Option Item))
  items_within = chain_within anywhere begins_there (there_at room)

  shorter : (at : Position) (ts : List Tok) (x : (Option Item × Position) × List Tok) → piece_there room at ts ≡ Ok x → length x.1 < length ts
  shorter at ts x e = let s = (piece_exchanged room at.before at.names).sound ts x.1 x.0 e in by_front s.0 s.1 s.2
    where
      by_front : (front : List Tok) → ts ≡ front ++ x.1 → any_piece at.before at.names front x.0 → length x.1 < length ts
      by_front [] e s = absurd (taken (there_rule room at) x.0 s)
      by_front (u ∷ front) e s = omega (arith, ap length e, length-append front x.1)

  finished_in : (k : List (Option Item) → List Item) (a : Option Item) (r : Result (List (Option Item) × List Tok) Fault) → finished k (follow r (λ more. done (a ∷ more))) ≡ finished (λ m. k (a ∷ m)) r
  finished_in k a (Ok y) = refl
  finished_in k a (Err e) = refl

  -- what is read of all items is the same, and so is the fault
  items_same : (n : ℕ) (at : Position) (ts : List Tok) (k : List (Option Item) → List Item) → length ts < n → finished k (all_within n at ts) ≡ finished k (items_within n at ts)
  items_same zero at ts k lt = absurd (omega (arith, lt))
  items_same (suc n) at [] k lt = refl
  items_same (suc n) at (t ∷ ts) k lt = by_test (λ next mid k' lt'. items_same n next mid k' lt') (contains (beginnings at.before) (number t.kind)) refl
    where
      Again : Type 0
      Again = (next : Position) (mid : List Tok) (k' : List (Option Item) → List Item) → length mid < n → finished k' (all_within n next mid) ≡ finished k' (items_within n next mid)

      by_piece : Again → (r : Result ((Option Item × Position) × List Tok) Fault) → piece_there room at (t ∷ ts) ≡ r → finished k (follow r (λ x. all_within n x.1 >>= λ more. done (x.0 ∷ more))) ≡ finished k (follow r (λ x. items_within n x.1 >>= λ more. done (x.0 ∷ more)))
      by_piece again (Err e) q = refl
      by_piece again (Ok x) q =
          finished_in k x.0.0 (all_within n x.0.1 x.1) ∙ again x.0.1 x.1 (λ m. k (x.0.0 ∷ m)) (omega (arith, lt, shorter at (t ∷ ts) x q)) ∙ sym (finished_in k x.0.0 (items_within n x.0.1 x.1))

      by_start : (b : Bool) → contains (STARTS at.before) (number t.kind) ≡ b → contains (beginnings at.before) (number t.kind) ≡ false → finished k (cond (not b) (reads [] (t ∷ ts)) (follow (piece_there room at (t ∷ ts)) (λ x. all_within n x.1 >>= λ more. done (x.0 ∷ more)))) ≡ finished k (reads [] (t ∷ ts))
      by_start true q e = ap (λ (r : Result ((Option Item × Position) × List Tok) Fault). finished k (follow r (λ x. all_within n x.1 >>= λ more. done (x.0 ∷ more)))) (extra_told at.before at.names t ts q e)
      by_start false q e = refl

      by_test : Again → (b : Bool) → contains (beginnings at.before) (number t.kind) ≡ b
          → finished k (cond (not (contains (STARTS at.before) (number t.kind))) (reads [] (t ∷ ts)) (follow (piece_there room at (t ∷ ts)) (λ x. all_within n x.1 >>= λ more. done (x.0 ∷ more)))) ≡ finished k (cond (not (contains (beginnings at.before) (number t.kind))) (reads [] (t ∷ ts)) (follow (there_at room at (t ∷ ts)) (λ x. items_within n x.1 >>= λ more. done (x.0 ∷ more))))
      by_test again true e =
          ap (λ (b : Bool). finished k (cond (not b) (reads [] (t ∷ ts)) (follow (piece_there room at (t ∷ ts)) (λ x. all_within n x.1 >>= λ more. done (x.0 ∷ more))))) (starts_too at.before (number t.kind) e)
          ∙ by_piece again (piece_there room at (t ∷ ts)) refl
          ∙ ap (λ (r : Result ((Option Item × Position) × List Tok) Fault). finished k (follow r (λ x. items_within n x.1 >>= λ more. done (x.0 ∷ more)))) (piece_same at.before at.names t ts (no_number at.before (number t.kind) e))
          ∙ sym (ap (λ (b : Bool). finished k (cond (not b) (reads [] (t ∷ ts)) (follow (there_at room at (t ∷ ts)) (λ x. items_within n x.1 >>= λ more. done (x.0 ∷ more))))) e)
      by_test again false e =
          by_start (contains (STARTS at.before) (number t.kind)) refl e
          ∙ sym (ap (λ (b : Bool). finished k (cond (not b) (reads [] (t ∷ ts)) (follow (there_at room at (t ∷ ts)) (λ x. items_within n x.1 >>= λ more. done (x.0 ∷ more))))) e)

  somewhere_starts : (before : Before) (n : ℕ) → contains STAND_INS n ≡ true → contains (STARTS before) n ≡ true
  somewhere_starts befores.Item n e = within_of STAND_INS (STARTS befores.Item) refl n e
  somewhere_starts befores.Declaration n e = within_of STAND_INS (STARTS befores.Declaration) refl n e
  somewhere_starts befores.Name n e = within_of STAND_INS (STARTS befores.Name) refl n e

  never_stops : (at : Position) (t : Tok) (rest : List Tok) → stops_here anywhere starts_there at (t ∷ rest) ≡ true → contains STAND_INS (number t.kind) ≡ true → ⊥
  never_stops at t rest q e = stopped (contains (STARTS at.before) (number t.kind)) (somewhere_starts at.before (number t.kind) e) q
    where
      stopped : (b : Bool) → b ≡ true → not b ≡ true → ⊥
      stopped true p q = cc
      stopped false p q = cc

  -- they end before none that is left out in some places
  never_before : (n : ℕ) (at : Position) (ts : List Tok) (m : List (Option Item)) (t : Tok) (rest : List Tok) → all_within n at ts ≡ reads m (t ∷ rest) → contains STAND_INS (number t.kind) ≡ true → ⊥
  never_before zero at ts m t rest d e = by_stop (stops_here anywhere starts_there at ts) refl d
    where
      by_stop : (b : Bool) → stops_here anywhere starts_there at ts ≡ b → cond b (reads [] ts) (fault_at Syntax ts) ≡ reads m (t ∷ rest) → ⊥
      by_stop true q d = never_stops at t rest (ap (λ (y : List Tok). stops_here anywhere starts_there at y) (sym (reads_is [] m ts (t ∷ rest) d).1) ∙ q) e
      by_stop false q d = cc
  never_before (suc n) at ts m t rest d e = by_stop (λ next mid m' d'. never_before n next mid m' t rest d' e) (stops_here anywhere starts_there at ts) refl d
    where
      Again : Type 0
      Again = (next : Position) (mid : List Tok) (m' : List (Option Item)) → all_within n next mid ≡ reads m' (t ∷ rest) → ⊥

      by_more : Again → (x : (Option Item × Position) × List Tok) → (r : Result (List (Option Item) × List Tok) Fault) → all_within n x.0.1 x.1 ≡ r → follow r (λ more. done (x.0.0 ∷ more)) ≡ reads m (t ∷ rest) → ⊥
      by_more again x (Ok y) q d = again x.0.1 x.1 y.0 (q ∙ ap (λ (z : List Tok). reads y.0 z) (reads_is (x.0.0 ∷ y.0) m y.1 (t ∷ rest) d).1)
      by_more again x (Err f) q d = cc

      by_piece : Again → (r : Result ((Option Item × Position) × List Tok) Fault) → follow r (λ x. all_within n x.1 >>= λ more. done (x.0 ∷ more)) ≡ reads m (t ∷ rest) → ⊥
      by_piece again (Ok x) d = by_more again x (all_within n x.0.1 x.1) refl d
      by_piece again (Err f) d = cc

      by_stop : Again → (b : Bool) → stops_here anywhere starts_there at ts ≡ b → cond b (reads [] ts) (follow (piece_there room at ts) (λ x. all_within n x.1 >>= λ more. done (x.0 ∷ more))) ≡ reads m (t ∷ rest) → ⊥
      by_stop again true q d = never_stops at t rest (ap (λ (y : List Tok). stops_here anywhere starts_there at y) (sym (reads_is [] m ts (t ∷ rest) d).1) ∙ q) e
      by_stop again false q d = by_piece again (piece_there room at ts) d

-- ---- modules

abbrev pub all_at : Reader Tok (List Item)
all_at = all_items_at FURTHER_PARAMETERS (first_place GLOBAL_NAMES) >>= λ all. done (fold keep [] all)

module_is : (ts : List Tok) → whole_of item_refusal (all_at ts) ≡ module_of ts
unfolding module_of items_at
module_is ts = items_same FURTHER_PARAMETERS (suc (length ts)) (first_place GLOBAL_NAMES) ts (λ all. fold keep [] all) (omega arith)

behind_items : (front : List Tok) → in_items (first_place GLOBAL_NAMES) front tt → in_module front tt
unfolding in_module any_items form.◌>>=◌
behind_items front (p, q, all, e, s, v) = (p, q, fold keep [] all, e, (p, [], all, sym (append-nil p), s, (refl, refl)), v)

all_exchanged : Swaps false true in_module any_module all_at
unfolding any_module any_items
all_exchanged = placed_too in_module behind_items (value_loosely (fold keep []) (all_items_exchanged FURTHER_PARAMETERS (first_place GLOBAL_NAMES)))

-- a module doesn't end before one that is left out in some places
all_never : (front : List Tok) (t : Tok) (rest : List Tok) (is : List Item) → all_at (front ++ t ∷ rest) ≡ reads is (t ∷ rest) → contains STAND_INS (number t.kind) ≡ true → ⊥
all_never front t rest is d e = by_result (all_items_at FURTHER_PARAMETERS (first_place GLOBAL_NAMES) (front ++ t ∷ rest)) refl d
  where
    by_result : (r : Result (List (Option Item) × List Tok) Fault) → all_items_at FURTHER_PARAMETERS (first_place GLOBAL_NAMES) (front ++ t ∷ rest) ≡ r → follow r (λ all. done (fold keep [] all)) ≡ reads is (t ∷ rest) → ⊥
    by_result (Ok y) q d = never_before FURTHER_PARAMETERS (suc (length (front ++ t ∷ rest))) (first_place GLOBAL_NAMES) (front ++ t ∷ rest) y.0 t rest (q ∙ ap (λ (z : List Tok). reads y.0 z) (reads_is (fold keep [] y.0) is y.1 (t ∷ rest) d).1) e
    by_result (Err f) q d = not_both _ _ (sym d)

-- at an item's place a lifetime marker is told to be left out
marker_told : (front : List Tok) (t : Tok) → nat_eq (number t.kind) (number kinds.LifetimeMarker) ≡ true → Outcome false in_module any_module all_at front t.kind (Err (item_refusal t))
marker_told front t e =
    subst (λ (k : TokenFault). Outcome false in_module any_module all_at front t.kind (Err k)) (sym (ap name_refusal (same (number t.kind) (number kinds.LifetimeMarker) e)))
    (only_marker (λ (h : TokenKind). Outcome false in_module any_module all_at front h (Err Profile)) tt t.kind e)

pub module_exchanged : (front : List Tok) (t : Tok) (rest : List Tok) (k : TokenFault) → module_of (front ++ t ∷ rest) ≡ wrong (record { left = length (t ∷ rest); kind = k }) → contains SOMEWHERE (number t.kind) ≡ true → Outcome false in_module any_module all_at front t.kind (Err k)
module_exchanged front t rest k d e = by_result (all_at (front ++ t ∷ rest)) refl (module_is (front ++ t ∷ rest) ∙ d)
  where
    by_end : (is : List Item) (left : List Tok) → all_at (front ++ t ∷ rest) ≡ reads is left → ended item_refusal is left ≡ wrong (record { left = length (t ∷ rest); kind = k }) → Outcome false in_module any_module all_at front t.kind (Err k)
    by_end is [] q h = absurd (not_both _ _ h)
    by_end is (u ∷ us) q h =
        let l : length (u ∷ us) ≡ length (t ∷ rest) = ap (λ (x : Fault). x.left) (wrong_is {X = List Item} (record { left = length (u ∷ us); kind = item_refusal u }) (record { left = length (t ∷ rest); kind = k }) h) in
        let s = all_exchanged.sound (front ++ t ∷ rest) (u ∷ us) is q in
        let c = cut_is front (t ∷ rest) s.0 (u ∷ us) s.1 (sym l) in
        by_class (nat_eq (number t.kind) (number kinds.LifetimeMarker)) refl (q ∙ ap (λ (y : List Tok). reads is y) (sym c.1)) (ap (λ (x : Fault). x.kind) (wrong_is {X = List Item} (record { left = length (u ∷ us); kind = item_refusal u }) (record { left = length (t ∷ rest); kind = k }) h)) (cons_is t u rest us c.1).0 e
      where
        by_class : (b : Bool) → nat_eq (number t.kind) (number kinds.LifetimeMarker) ≡ b → all_at (front ++ t ∷ rest) ≡ reads is (t ∷ rest) → item_refusal u ≡ k → t ≡ u → b || contains STAND_INS (number t.kind) ≡ true → Outcome false in_module any_module all_at front t.kind (Err k)
        by_class true p q' i j e' = subst (λ (x : TokenFault). Outcome false in_module any_module all_at front t.kind (Err x)) (ap item_refusal j ∙ i) (marker_told front t p)
        by_class false p q' i j e' = absurd (all_never front t rest is q' e')

    by_result : (r : Result (List Item × List Tok) Fault) → all_at (front ++ t ∷ rest) ≡ r → whole_of item_refusal r ≡ wrong (record { left = length (t ∷ rest); kind = k }) → Outcome false in_module any_module all_at front t.kind (Err k)
    by_result (Ok x) q h = by_end x.0 x.1 q h
    by_result (Err f) q h = all_exchanged.swap front t rest (Err k) (q ∙ ap wrong (wrong_is {X = List Item} f (record { left = length (t ∷ rest); kind = k }) h))

-- ---- where a reading is stuck, none goes on without the limits

module_broad : Broad tokens any_module (items_at FURTHER_PARAMETERS GLOBAL_NAMES) (among tokens ITEM) (among tokens ANY) true
unfolding any_module
module_broad = (items_rule FURTHER_PARAMETERS GLOBAL_NAMES).law.broad

module_read : (ts : List Tok) (is : List Item) → any_module ts is → (module_of ts ≡ Ok is) ⊎ ((left : ℕ) × (k : TokenFault) × IsBound k × (module_of ts ≡ Err (record { left = left; kind = k })))
unfolding module_of
module_read ts is s = by_up (subst (λ (us : List Tok). UpTo tokens us (items_at FURTHER_PARAMETERS GLOBAL_NAMES us) (reads is [])) (append-nil ts) (module_broad.reads ts [] is s tt))
  where
    by_up : UpTo tokens ts (items_at FURTHER_PARAMETERS GLOBAL_NAMES ts) (reads is []) → (whole_of item_refusal (items_at FURTHER_PARAMETERS GLOBAL_NAMES ts) ≡ Ok is) ⊎ ((left : ℕ) × (k : TokenFault) × IsBound k × (whole_of item_refusal (items_at FURTHER_PARAMETERS GLOBAL_NAMES ts) ≡ Err (record { left = left; kind = k })))
    by_up (inl e) = inl (ap (whole_of item_refusal) e)
    by_up (inr w) = inr (length (w.bad ∷ w.rest), w.kind, w.bound, ap (whole_of item_refusal) w.ends)

-- behind these tokens a module is refused at this one
abbrev Refused : List Tok → Tok → Type 0
Refused front u = (rest : List Tok) → (k : TokenFault) × (IsBound k → ⊥) × (module_of (front ++ u ∷ rest) ≡ wrong (record { left = length (u ∷ rest); kind = k }))

none_at : (front : List Tok) (u : Tok) → Refused front u → Extends any_module (front ++ u ∷ []) → ⊥
none_at front u refused v =
    let s : any_module (front ++ u ∷ v.0) v.1 = subst (λ (ts : List Tok). any_module ts v.1) (append_assoc front (u ∷ []) v.0) v.2 in
    let r = refused v.0 in
    by_read v.1 (u ∷ v.0) r.0 r.1 r.2 (module_read (front ++ u ∷ v.0) v.1 s)
  where
    by_read : (is : List Item) (us : List Tok) (k : TokenFault) → (IsBound k → ⊥) → module_of (front ++ us) ≡ wrong (record { left = length us; kind = k }) → (module_of (front ++ us) ≡ Ok is) ⊎ ((left : ℕ) × (k : TokenFault) × IsBound k × (module_of (front ++ us) ≡ Err (record { left = left; kind = k }))) → ⊥
    by_read is us k n d (inl e) = never is (record { left = length us; kind = k }) (sym e ∙ d)
      where
        never : (is : List Item) (f : Fault) → Ok is ≡ wrong f → ⊥
        never is f e = cc
    by_read is us k n d (inr (left, l, b, e)) = n (subst IsBound (ap (λ (x : Fault). x.kind) (wrong_is {X = List Item} (record { left = left; kind = l }) (record { left = length us; kind = k }) (sym e ∙ d))) b)

pub none_goes_on : (front : List Tok) (u : Tok) → Stuck all_at front u → Extends any_module (front ++ u ∷ []) → ⊥
none_goes_on front u stuck = none_at front u (λ rest. let r = stuck rest in (r.0, r.1, sym (module_is (front ++ u ∷ rest)) ∙ ap (whole_of item_refusal) r.2))

-- ---- a token that is told to be left out where one of these classes goes on, and else against the syntax

abbrev pub Placed : List ℕ → List Tok → TokenFault → Type 0
Placed classes front Syntax = (u : Tok) → among tokens classes u ≡ true → Extends any_module (front ++ u ∷ []) → ⊥
Placed classes front Profile = (u : Tok) × (among tokens classes u ≡ true) × Goes any_module front u
Placed classes front Number = Unit {0}
Placed classes front Limit = Unit {0}

-- neither it nor one of them begins an item
module _ (classes : List ℕ) (angled : Bool) (front : List Tok) (t : Tok) (q : is_angled front ≡ angled) (own : item_refusal t ≡ Syntax) (others : (u : Tok) → among tokens classes u ≡ true → item_refusal u ≡ Syntax)
    (told : IsTold angled t.kind (Stuck all_at front) (Goes any_module front) → (u : Tok) × (among tokens classes u ≡ true) × Goes any_module front u) (not_told : NotTold angled t.kind (Stuck all_at front) (Goes any_module front) (in_module front tt) → (u : Tok) → among tokens classes u ≡ true → Stuck all_at front u)
    (stays : (is : List Item) → OutcomeAt false in_module any_module all_at angled front t.kind (Ok is) → (u : Tok) → among tokens classes u ≡ true → Stays all_at front is u) where
  -- what is said there
  said : (rest : List Tok) (o : Result (List Item) TokenFault) → all_at (front ++ t ∷ rest) ≡ ends o (t ∷ rest) → OutcomeAt false in_module any_module all_at angled front t.kind o
  said rest o d = subst (λ (b : Bool). OutcomeAt false in_module any_module all_at b front t.kind o) q (all_exchanged.swap front t rest o d)

  items_end : (rest : List Tok) (is : List Item) → all_at (front ++ t ∷ rest) ≡ reads is (t ∷ rest) → Placed classes front Syntax
  items_end rest is d u i = none_at front u (λ rest'. (Syntax, λ b. b, sym (module_is (front ++ u ∷ rest')) ∙ ap (whole_of item_refusal) (stays is (said rest (Ok is) d) u i rest') ∙ ap (λ (k : TokenFault). wrong (record { left = length (u ∷ rest'); kind = k })) (others u i)))

  by_kind : (k : TokenFault) → OutcomeAt false in_module any_module all_at angled front t.kind (Err k) → Placed classes front k
  by_kind Syntax o = λ u i. none_goes_on front u (not_told o u i)
  by_kind Profile o = told o
  by_kind Number o = tt
  by_kind Limit o = tt

  placed : (rest : List Tok) (k : TokenFault) → module_of (front ++ t ∷ rest) ≡ wrong (record { left = length (t ∷ rest); kind = k }) → Placed classes front k
  placed rest k d = by_result (all_at (front ++ t ∷ rest)) refl (module_is (front ++ t ∷ rest) ∙ d)
    where
      by_end : (is : List Item) (left : List Tok) → all_at (front ++ t ∷ rest) ≡ reads is left → ended item_refusal is left ≡ wrong (record { left = length (t ∷ rest); kind = k }) → Placed classes front k
      by_end is [] e h = absurd (not_both _ _ h)
      by_end is (u ∷ us) e h =
          let f = wrong_is {X = List Item} (record { left = length (u ∷ us); kind = item_refusal u }) (record { left = length (t ∷ rest); kind = k }) h in
          let s = all_exchanged.sound (front ++ t ∷ rest) (u ∷ us) is e in
          let c = cut_is front (t ∷ rest) s.0 (u ∷ us) s.1 (sym (ap (λ (x : Fault). x.left) f)) in
          subst (Placed classes front) (sym own ∙ ap item_refusal (cons_is t u rest us c.1).0 ∙ ap (λ (x : Fault). x.kind) f) (items_end rest is (e ∙ ap (λ (y : List Tok). reads is y) (sym c.1)))

      by_result : (r : Result (List Item × List Tok) Fault) → all_at (front ++ t ∷ rest) ≡ r → whole_of item_refusal r ≡ wrong (record { left = length (t ∷ rest); kind = k }) → Placed classes front k
      by_result (Ok x) e h = by_end x.0 x.1 e h
      by_result (Err f) e h = by_kind k (said rest (Err k) (e ∙ ap wrong (wrong_is {X = List Item} f (record { left = length (t ∷ rest); kind = k }) h)))

-- of a class of which none begins an item
refused_syntax : (class : ℕ) → name_refusal class ≡ Syntax → (u : Tok) → among tokens (class ∷ []) u ≡ true → item_refusal u ≡ Syntax
refused_syntax class e u i = by_test (nat_eq (number u.kind) class) refl i
  where
    by_test : (b : Bool) → nat_eq (number u.kind) class ≡ b → b || false ≡ true → item_refusal u ≡ Syntax
    by_test true p i = ap name_refusal (same (number u.kind) class p) ∙ e
    by_test false p i = absurd cc

-- ---- a number directly behind `<`, where `{` goes on

one_of_one : (n m : ℕ) → contains (m ∷ []) n ≡ true → nat_eq n m ≡ true
one_of_one n m e = by_test (nat_eq n m) e
  where
    by_test : (b : Bool) → b || false ≡ true → b ≡ true
    by_test true e = refl
    by_test false e = absurd (differ e)

number_told : (h : TokenKind) (S G : Tok → Type 0) → contains (number kinds.Number ∷ []) (number h) ≡ true → IsTold true h S G → (u : Tok) × (among tokens OPEN_BRACE u ≡ true) × G u
number_told h S G e n = only_number (λ (h : TokenKind). IsTold true h S G → (u : Tok) × (among tokens OPEN_BRACE u ≡ true) × G u) (λ n. n refl) h (one_of_one (number h) (number kinds.Number) e) n

number_not : (h : TokenKind) (S G : Tok → Type 0) (P : Type 0) → contains (number kinds.Number ∷ []) (number h) ≡ true → NotTold true h S G P → (u : Tok) → among tokens OPEN_BRACE u ≡ true → S u
number_not h S G P e n = only_number (λ (h : TokenKind). NotTold true h S G P → (u : Tok) → among tokens OPEN_BRACE u ≡ true → S u) (λ n. n refl) h (one_of_one (number h) (number kinds.Number) e) n

number_stays : (h : TokenKind) (is : List Item) (front : List Tok) → contains (number kinds.Number ∷ []) (number h) ≡ true → OutcomeAt false in_module any_module all_at true front h (Ok is) → (u : Tok) → among tokens OPEN_BRACE u ≡ true → Stays all_at front is u
number_stays h is front e o =
    only_number (λ (h : TokenKind). OutcomeAt false in_module any_module all_at true front h (Ok is) → (u : Tok) → among tokens OPEN_BRACE u ≡ true → Stays all_at front is u) (λ o. elim o [ inl stays ↦ stays | inr w ↦ absurd w.1 ]) h
    (one_of_one (number h) (number kinds.Number) e) o

pub vector_placed : (front : List Tok) (t : Tok) → among tokens (number kinds.Number ∷ []) t ≡ true → is_angled front ≡ true → (rest : List Tok) (k : TokenFault) → module_of (front ++ t ∷ rest) ≡ wrong (record { left = length (t ∷ rest); kind = k }) → Placed OPEN_BRACE front k
vector_placed front t n q =
    placed OPEN_BRACE true front t q (refused_syntax (number kinds.Number) refl t n) (refused_syntax (number kinds.OpenBrace) refl) (number_told t.kind (Stuck all_at front) (Goes any_module front) n) (number_not t.kind (Stuck all_at front) (Goes any_module front) (in_module front tt) n) (λ is. number_stays t.kind is front n)

-- ---- a string, where another goes on

string_told : (b : Bool) (h : TokenKind) (S G : Tok → Type 0) → contains STRING (number h) ≡ true → IsTold b h S G → (u : Tok) × (among tokens STRING u ≡ true) × G u
string_told b h S G e n = only_string (λ (h : TokenKind). IsTold b h S G → (u : Tok) × (among tokens STRING u ≡ true) × G u) (λ n. n) h e n

string_not : (b : Bool) (h : TokenKind) (S G : Tok → Type 0) (P : Type 0) → contains STRING (number h) ≡ true → NotTold b h S G P → (u : Tok) → among tokens STRING u ≡ true → S u
string_not b h S G P e n = only_string (λ (h : TokenKind). NotTold b h S G P → (u : Tok) → among tokens STRING u ≡ true → S u) (λ n. n) h e n

string_stays : (b : Bool) (h : TokenKind) (is : List Item) (front : List Tok) → contains STRING (number h) ≡ true → OutcomeAt false in_module any_module all_at b front h (Ok is) → (u : Tok) → among tokens STRING u ≡ true → Stays all_at front is u
string_stays b h is front e o =
    only_string (λ (h : TokenKind). OutcomeAt false in_module any_module all_at b front h (Ok is) → (u : Tok) → among tokens STRING u ≡ true → Stays all_at front is u) (λ o. elim o [ inl stays ↦ stays | inr w ↦ absurd w.1 ]) h e o

pub string_placed : (front : List Tok) (t : Tok) → among tokens STRING t ≡ true → (rest : List Tok) (k : TokenFault) → module_of (front ++ t ∷ rest) ≡ wrong (record { left = length (t ∷ rest); kind = k }) → Placed STRING front k
string_placed front t n =
    placed STRING (is_angled front) front t refl (refused_syntax (number kinds.Str) refl t n) (refused_syntax (number kinds.Str) refl) (string_told (is_angled front) t.kind (Stuck all_at front) (Goes any_module front) n) (string_not (is_angled front) t.kind (Stuck all_at front) (Goes any_module front) (in_module front tt) n) (λ is. string_stays (is_angled front) t.kind is front n)
