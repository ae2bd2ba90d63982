-- Items that are put behind those that were read before.
use Rattle.std.proofs.Common.{◌≡◌, ℕ, zero, suc, ◌-◌, nat_eq, Bool, true, false, cond, Option, Some, None, List, [], ◌∷◌, ◌++◌, length, Result, Ok, Err, refl, sym, ap, subst, ◌∙◌, arith}
use Rattle.std.specs.Prelude.{IfErr, OnOk}
use Rattle.ir_lex.specs.TokenKinds.{number}
use Rattle.ir_lex.specs.declared.token_kind.TokenKind.TheVariants as kinds
use Rattle.ir_lex.specs.Tok.{Tok}
use Rattle.ir_parse_parts.specs.declared.fault.Fault.{Fault}
use Rattle.ir_parse_parts.specs.declared.fault.TokenFault.TheVariants.{Limit}
use Rattle.ir_tree.specs.declared.failure.Failure.{Failure}
use Rattle.ir_tree.specs.declared.failure.Failure.TheVariants as errors
use Rattle.ir_parse_parts.specs.Alphabet.{among}
use Rattle.ir_parse_parts.specs.Readers.{Reader, Fails, Returns, done, fault_at, follow, ◌>>=◌, next_is, pick}
use Rattle.ir_parse_parts.specs.Classes.{tokens, the_at}
use Rattle.ir_parse_parts.specs.declared.raw.FunctionHeader.{FunctionHeader}
use Rattle.ir_parse_heads.specs.AttributesAt.{HEAD, head_attribute_at}
use Rattle.ir_parse_heads.specs.declared.attributes.Attribute.{Attribute}
use Rattle.ir_parse_heads.specs.FunctionHeadsAt.{head_at}
use Rattle.ir_parse_heads.specs.declared.function_heads.Role.TheVariants as roles
use Rattle.ir_parse_bodies.specs.BlocksAt.{definition_at}
use Rattle.ir_parse_globals.specs.Variables.{NAMES}
use Rattle.ir_parse_globals.specs.VariablesAt.{variable_line_at}
use Rattle.ir_parse_parts.specs.declared.places.Before.TheVariants as befores
use Rattle.ir_parse_parts.specs.declared.places.Before.{Before}
use Rattle.ir_parse_parts.specs.declared.places.Position.{Position}
use Rattle.ir_parse_parts.specs.declared.raw.Item.{Item}
use Rattle.ir_parse_parts.specs.declared.raw.Item.TheVariants as items
use Rattle.ir_parse_operands.specs.Adding.{pushed_at}
use Rattle.ir_parse_operands.proofs.Choices.{passes_over, picks}
use Rattle.ir_parse_operands.proofs.Levels.{gives_as}
use Rattle.ir_parse.specs.ItemForms.{ParsedItem, at_place, declared, keep}
use Rattle.ir_parse.specs.ItemFormsAt.{DECLARE, NAMING, attached_before_at, attribute_behind_at, declaration_at, plainly_at, unnamed_at, kept_at, left_out_at, naming_at, named_at, named_within_at, beside_at, other_at, piece_at}
use Rattle.ir_parse.specs.Putting.{behind_at}
use Rattle.ir_parse.proofs.Exchanged.{apart}

abbrev kept_to : {S : Type 0} → List Item → Option Item × S → Reader Tok (List Item × S)
kept_to front x = done (keep front x.0, x.1)

abbrev placed : ℕ → Reader Tok ParsedItem → Reader Tok (Option Item × Position)
placed names f = f >>= λ x. done (at_place names x)

abbrev at_names : ℕ → List Item × Before → Reader Tok (List Item × Position)
at_names names y = done (y.0, record { before = y.1; names = names })

-- the names that are left, behind what was put
behind_placed : (front : List Item) (names : ℕ) (f : Reader Tok ParsedItem) (ts : List Tok) → behind_at front (placed names f) ts ≡ follow (behind_at front f ts) (at_names names)
unfolding behind_at
behind_placed front names f ts = by_result (f ts)
  where
    by_result : (r : Result (ParsedItem × List Tok) Fault) → follow (follow r (λ x. done (at_place names x))) (kept_to front) ≡ follow (follow r (kept_to front)) (at_names names)
    by_result (Ok x) = refl
    by_result (Err e) = refl

placed_gives : (front new : List Item) (names : ℕ) (f : Reader Tok ParsedItem) (ts rest : List Tok) (b : Before) → behind_at front f ts ≡ Ok ((new, b), rest) → behind_at front (placed names f) ts ≡ Ok ((new, record { before = b; names = names }), rest)
placed_gives front new names f ts rest b h = behind_placed front names f ts ∙ ap (λ (r : Result ((List Item × Before) × List Tok) Fault). follow r (at_names names)) h

placed_fails : (front : List Item) (names : ℕ) (f : Reader Tok ParsedItem) (ts : List Tok) (e : Failure Fault) → Fails e (behind_at front f ts) → Fails e (behind_at front (placed names f) ts)
placed_fails front names f ts errors.NoMemory h = tt
placed_fails front names f ts (errors.Fault e) h = behind_placed front names f ts ∙ ap (λ (r : Result ((List Item × Before) × List Tok) Fault). follow r (at_names names)) h

-- ---- the same reading with more beside it

-- what was returned, with more beside it
pub returned_with : {X Y Z : Type 0} (view : X → Y × List Tok) (h : Y → Z) (result : Result X (Failure Fault)) (read : Result (Y × List Tok) Fault) → Returns view result read → Returns (λ x. (h (view x).0, (view x).1)) result (follow read (λ y. done (h y)))
returned_with {Y = Y} view h (Ok x) read p = ap (λ (r : Result (Y × List Tok) Fault). follow r (λ y. done (h y))) p
returned_with view h (Err errors.NoMemory) read p = tt
returned_with {Y = Y} view h (Err (errors.Fault f)) read p = ap (λ (r : Result (Y × List Tok) Fault). follow r (λ y. done (h y))) p

module _ (front : List Item) (ts : List Tok) where
  kept_behind : (f : Reader Tok Item) → behind_at front (kept_at f) ts ≡ follow (pushed_at front f ts) (λ is. done (is, befores.Item))
  unfolding behind_at kept_at
  kept_behind f = by_result (f ts)
    where
      by_result : (r : Result (Item × List Tok) Fault) → follow (follow r (λ i. done (Some i, befores.Item))) (kept_to front) ≡ follow (follow r (λ i. done (front ++ i ∷ []))) (λ is. done (is, befores.Item))
      by_result (Ok x) = refl
      by_result (Err e) = refl

  left_out_behind : (f : Reader Tok (Unit {0})) → behind_at front (left_out_at f) ts ≡ follow (f ts) (λ _. done (front, befores.Item))
  unfolding behind_at left_out_at
  left_out_behind f = by_result (f ts)
    where
      by_result : (r : Result (Unit {0} × List Tok) Fault) → follow (follow r (λ _. done (None, befores.Item))) (kept_to front) ≡ follow r (λ _. done (front, befores.Item))
      by_result (Ok x) = refl
      by_result (Err e) = refl

  -- an item is added
  pub kept_returns : (f : Reader Tok Item) (new : List Item) (rest : List Tok) (result : Result (Unit {0}) (Failure Fault)) → Returns (λ _. (new, rest)) result (pushed_at front f ts) → Returns (λ _. ((new, befores.Item), rest)) result (behind_at front (kept_at f) ts)
  kept_returns f new rest result h = gives_as _ _ _ _ (sym (kept_behind f)) (returned_with (λ _. (new, rest)) (λ (is : List Item). (is, befores.Item)) result (pushed_at front f ts) h)

  -- or dropped
  pub left_out_returns : (f : Reader Tok (Unit {0})) (rest : List Tok) (result : Result (Unit {0}) (Failure Fault)) → Returns (λ _. (tt, rest)) result (f ts) → Returns (λ _. ((front, befores.Item), rest)) result (behind_at front (left_out_at f) ts)
  left_out_returns f rest result h = gives_as _ _ _ _ (sym (left_out_behind f)) (returned_with (λ _. (tt, rest)) (λ (u : Unit {0}). (front, befores.Item)) result (f ts) h)

  pub behind_picks : {S : Type 0} (begins : Tok → Bool) (one other : Reader Tok (Option Item × S)) → next_is begins ts ≡ true → behind_at front (pick begins one other) ts ≡ behind_at front one ts
  unfolding behind_at
  behind_picks {S} begins one other h = ap (λ (r : Result ((Option Item × S) × List Tok) Fault). follow r (kept_to front)) (picks begins one other ts h)

  pub behind_passes : {S : Type 0} (begins : Tok → Bool) (one other : Reader Tok (Option Item × S)) → next_is begins ts ≡ false → behind_at front (pick begins one other) ts ≡ behind_at front other ts
  unfolding behind_at
  behind_passes {S} begins one other h = ap (λ (r : Result ((Option Item × S) × List Tok) Fault). follow r (kept_to front)) (passes_over begins one other ts h)

  -- an attribute behind the head of a declaration, or none
  pub attribute_behind : (before : Before) (a : Attribute) (rest : List Tok) → before ≡ befores.Declaration → next_is (among tokens HEAD) ts ≡ true → head_attribute_at ts ≡ Ok (a, rest) → behind_at front (plainly_at before) ts ≡ Ok ((front, befores.Declaration), rest)
  unfolding behind_at attribute_behind_at
  attribute_behind before a rest b h e =
      ap (λ (x : Before). behind_at front (plainly_at x) ts) b
      ∙ behind_picks (among tokens HEAD) attribute_behind_at unnamed_at h
      ∙ ap (λ (r : Result (Attribute × List Tok) Fault). follow (follow r (λ _. done (None, befores.Declaration))) (kept_to front)) e

  pub no_attribute : (before : Before) → (before ≡ befores.Declaration → next_is (among tokens HEAD) ts ≡ false) → behind_at front (plainly_at before) ts ≡ behind_at front unnamed_at ts
  no_attribute befores.Item h = refl
  no_attribute befores.Declaration h = behind_passes (among tokens HEAD) attribute_behind_at unnamed_at (h refl)
  no_attribute befores.Name h = refl

  -- a declaration
  pub declaration_read : (room : ℕ) (head : FunctionHeader) (behind_word behind_metadata rest : List Tok) → the_at kinds.Declare ts ≡ Ok (tt, behind_word) → attached_before_at behind_word ≡ Ok (tt, behind_metadata) → head_at roles.Declaration room behind_metadata ≡ Ok (head, rest)
      → behind_at front (declaration_at room) ts ≡ Ok ((keep front (declared head), befores.Declaration), rest)
  unfolding behind_at declaration_at
  declaration_read room head behind_word behind_metadata rest word metadata read =
      ap (λ (r : Result (Unit {0} × List Tok) Fault). follow (follow r (λ _. attached_before_at >>= λ _. head_at roles.Declaration room >>= λ h. done (declared h, befores.Declaration))) (kept_to front)) word
      ∙ ap (λ (r : Result (Unit {0} × List Tok) Fault). follow (follow r (λ _. head_at roles.Declaration room >>= λ h. done (declared h, befores.Declaration))) (kept_to front)) metadata
      ∙ ap (λ (r : Result (FunctionHeader × List Tok) Fault). follow (follow r (λ h. done (declared h, befores.Declaration))) (kept_to front)) read

  pub declaration_comes : (room : ℕ) → next_is (among tokens DECLARE) ts ≡ true → behind_at front (naming_at room) ts ≡ behind_at front (declaration_at room) ts
  declaration_comes room h =
      behind_passes (among tokens NAMES) (kept_at variable_line_at) (pick (among tokens DECLARE) (declaration_at room) (kept_at (definition_at room))) (no_variable ts h)
      ∙ behind_picks (among tokens DECLARE) (declaration_at room) (kept_at (definition_at room)) h
    where
      no_variable : (ts : List Tok) → next_is (among tokens DECLARE) ts ≡ true → next_is (among tokens NAMES) ts ≡ false
      no_variable [] h = refl
      no_variable (t ∷ ts) h = apart DECLARE NAMES refl (number t.kind) h

  -- a variable or a definition
  pub defining_comes : (room : ℕ) → next_is (among tokens DECLARE) ts ≡ false → behind_at front (naming_at room) ts ≡ follow (pushed_at front (pick (among tokens NAMES) variable_line_at (definition_at room)) ts) (λ is. done (is, befores.Item))
  defining_comes room h = by_test (next_is (among tokens NAMES) ts) refl
    where
      added : Result (Item × List Tok) Fault → Result ((List Item × Before) × List Tok) Fault
      added r = follow (follow r (λ i. done (front ++ i ∷ []))) (λ is. done (is, befores.Item))

      by_test : (b : Bool) → next_is (among tokens NAMES) ts ≡ b → behind_at front (naming_at room) ts ≡ added (pick (among tokens NAMES) variable_line_at (definition_at room) ts)
      by_test true n =
          behind_picks (among tokens NAMES) (kept_at variable_line_at) (pick (among tokens DECLARE) (declaration_at room) (kept_at (definition_at room))) n
          ∙ kept_behind variable_line_at
          ∙ ap added (sym (picks (among tokens NAMES) variable_line_at (definition_at room) ts n))
      by_test false n =
          behind_passes (among tokens NAMES) (kept_at variable_line_at) (pick (among tokens DECLARE) (declaration_at room) (kept_at (definition_at room))) n
          ∙ behind_passes (among tokens DECLARE) (declaration_at room) (kept_at (definition_at room)) h
          ∙ kept_behind (definition_at room)
          ∙ ap added (sym (passes_over (among tokens NAMES) variable_line_at (definition_at room) ts n))

-- a lifetime marker isn't kept
pub declared_dropped : (front : List Item) (head : FunctionHeader) → nat_eq (number head.name.kind) (number kinds.LifetimeMarker) ≡ true → keep front (declared head) ≡ front
declared_dropped front head e = ap (λ (b : Bool). keep front (cond b None (Some (items.Declaration head)))) e

pub declared_kept : (front : List Item) (head : FunctionHeader) → nat_eq (number head.name.kind) (number kinds.LifetimeMarker) ≡ false → keep front (declared head) ≡ front ++ items.Declaration head ∷ []
declared_kept front head e = ap (λ (b : Bool). keep front (cond b None (Some (items.Declaration head)))) e

-- what was read is put there, unless memory ran out
pub put_returns : {B : Type 0} (result : Result (Unit {0}) (Failure Fault)) (new put : List Item) (b : B) (rest : List Tok) (read : Result ((List Item × B) × List Tok) Fault) → OnOk result (new ≡ put) → IfErr result (λ e. e ≡ errors.NoMemory) → read ≡ Ok ((put, b), rest) → Returns (λ (u : Unit {0}). ((new, b), rest)) result read
put_returns (Ok u) new put b rest read p m e = e ∙ ap (λ (xs : List Item). Ok ((xs, b), rest)) (sym p)
put_returns (Err d) new put b rest read p m e = subst (λ (f : Failure Fault). Fails f read) (sym m) tt

-- ---- an item that names something, where there is room for a name

named_is : (room n : ℕ) → named_within_at room (suc n) ≡ placed (suc n - 1) (naming_at room)
unfolding named_at
named_is room n = by_test (nat_eq (suc n) 0) (not_zero n)
  where
    not_zero : (n : ℕ) → nat_eq (suc n) 0 ≡ false
    not_zero n = grind arith

    by_test : (b : Bool) → b ≡ false → cond b (fault_at Limit) (named_at room (suc n)) ≡ placed (suc n - 1) (naming_at room)
    by_test true e = absurd cc
    by_test false e = refl

pub named_gives : (front new : List Item) (room names : ℕ) (ts rest : List Tok) (b : Before) → (names ≡ 0 → ⊥) → behind_at front (naming_at room) ts ≡ Ok ((new, b), rest) → behind_at front (named_within_at room names) ts ≡ Ok ((new, record { before = b; names = names - 1 }), rest)
named_gives front new room zero ts rest b n h = absurd (n refl)
named_gives front new room (suc m) ts rest b n h = ap (λ (f : Reader Tok (Option Item × Position)). behind_at front f ts) (named_is room m) ∙ placed_gives front new (suc m - 1) (naming_at room) ts rest b h

pub named_fails : (front : List Item) (room names : ℕ) (ts : List Tok) (e : Failure Fault) → (names ≡ 0 → ⊥) → Fails e (behind_at front (naming_at room) ts) → Fails e (behind_at front (named_within_at room names) ts)
named_fails front room zero ts e n h = absurd (n refl)
named_fails front room (suc m) ts errors.NoMemory n h = tt
named_fails front room (suc m) ts (errors.Fault e) n h = ap (λ (f : Reader Tok (Option Item × Position)). behind_at front f ts) (named_is room m) ∙ placed_fails front (suc m - 1) (naming_at room) ts (errors.Fault e) h

pub named_full : (front : List Item) (room names : ℕ) (ts : List Tok) (left : ℕ) → left ≡ length ts → names ≡ 0 → behind_at front (named_within_at room names) ts ≡ Err (record { left = left; kind = Limit })
unfolding behind_at
named_full front room names ts left l e = rw e (rw l refl)

-- ---- an item at its place

pick_one : (front : List Item) (room : ℕ) (at : Position) (ts : List Tok) → true ≡ next_is (among tokens NAMING) ts → behind_at front (piece_at room at.before at.names) ts ≡ behind_at front (named_within_at room at.names) ts
unfolding behind_at piece_at
pick_one front room at [] n = absurd cc
pick_one front room at (t ∷ ts) n = rw (sym n) refl

pick_other : (front : List Item) (room : ℕ) (at : Position) (ts : List Tok) → false ≡ next_is (among tokens NAMING) ts → behind_at front (piece_at room at.before at.names) ts ≡ behind_at front (placed at.names (beside_at at.before)) ts
unfolding behind_at piece_at other_at
pick_other front room at [] n = refl
pick_other front room at (t ∷ ts) n = rw (sym n) refl

pub piece_named : (front new : List Item) (room : ℕ) (at : Position) (ts rest : List Tok) (r : Result Position (Failure Fault)) → true ≡ next_is (among tokens NAMING) ts → Returns (λ p. ((new, p), rest)) r (behind_at front (named_within_at room at.names) ts) → Returns (λ p. ((new, p), rest)) r (behind_at front (piece_at room at.before at.names) ts)
piece_named front new room at ts rest (Ok p) n h = pick_one front room at ts n ∙ h
piece_named front new room at ts rest (Err errors.NoMemory) n h = tt
piece_named front new room at ts rest (Err (errors.Fault e)) n h = pick_one front room at ts n ∙ h

pub piece_gives : (front new : List Item) (room : ℕ) (at : Position) (ts rest : List Tok) (b : Before) → false ≡ next_is (among tokens NAMING) ts → behind_at front (beside_at at.before) ts ≡ Ok ((new, b), rest) → behind_at front (piece_at room at.before at.names) ts ≡ Ok ((new, record { before = b; names = at.names }), rest)
piece_gives front new room at ts rest b n h = pick_other front room at ts n ∙ placed_gives front new at.names (beside_at at.before) ts rest b h

pub piece_fails : (front : List Item) (room : ℕ) (at : Position) (ts : List Tok) (e : Failure Fault) → false ≡ next_is (among tokens NAMING) ts → Fails e (behind_at front (beside_at at.before) ts) → Fails e (behind_at front (piece_at room at.before at.names) ts)
piece_fails front room at ts errors.NoMemory n h = tt
piece_fails front room at ts (errors.Fault e) n h = pick_other front room at ts n ∙ placed_fails front at.names (beside_at at.before) ts (errors.Fault e) h

-- ---- what was read, of what was put

abbrev with_item : {S : Type 0} → Option Item → (List Item × S) × List Tok → Result ((Option Item × S) × List Tok) Fault
with_item i x = Ok ((i, x.0.1), x.1)

pub put_was_read : {S : Type 0} (front new : List Item) (f : Reader Tok (Option Item × S)) (ts rest : List Tok) (s : S) → behind_at front f ts ≡ Ok ((new, s), rest) → (i : Option Item) × (f ts ≡ Ok ((i, s), rest)) × (keep front i ≡ new)
unfolding behind_at
put_was_read {S = S} front new f ts rest s h = by_result (f ts) refl h
  where
    by_result : (r : Result ((Option Item × S) × List Tok) Fault) → f ts ≡ r → follow r (kept_to front) ≡ Ok ((new, s), rest) → (i : Option Item) × (f ts ≡ Ok ((i, s), rest)) × (keep front i ≡ new)
    by_result (Ok ((i, s'), rest')) d e =
        let p : ◌≡◌ {A = (List Item × S) × List Tok} ((keep front i, s'), rest') ((new, s), rest) = cc in
        (i, d ∙ ap (with_item i) p, ap (λ (x : (List Item × S) × List Tok). x.0.0) p)
    by_result (Err e') d e = absurd cc

pub put_fails : {S : Type 0} (front : List Item) (f : Reader Tok (Option Item × S)) (ts : List Tok) (e : Failure Fault) → Fails e (behind_at front f ts) → Fails e (f ts)
unfolding behind_at
put_fails {S = S} front f ts errors.NoMemory h = tt
put_fails {S = S} front f ts (errors.Fault e) h = by_result (f ts) refl h
  where
    by_result : (r : Result ((Option Item × S) × List Tok) Fault) → f ts ≡ r → follow r (kept_to front) ≡ Err e → f ts ≡ Err e
    by_result (Ok x) d h' = absurd cc
    by_result (Err e') d h' = cc
