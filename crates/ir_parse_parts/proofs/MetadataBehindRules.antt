-- The readers of metadata behind a declaration's head read it.
use Rattle.std.proofs.Common.{◌≡◌, ℕ, Bool, true, false, cond, ◌||◌, ◌&&◌, nat_eq, List, [], ◌∷◌, ◌++◌, Result, Ok, Err, refl, sym, ap, ◌∙◌, arith}
use Rattle.std.specs.Prelude.{codes}
use Rattle.ir_lex.specs.declared.token_kind.TokenKind.TheVariants as kinds
use Rattle.ir_lex.specs.declared.token_kind.TokenKind.{TokenKind}
use Rattle.ir_lex.specs.declared.token.TokenForm.TheVariants as forms
use Rattle.ir_lex.specs.TokenKinds.{number}
use Rattle.ir_lex.specs.Tok.{Tok}
use Rattle.ir_parse_parts.specs.Alphabet.{among, contains, is_number}
use Rattle.ir_parse_parts.specs.Balanced.{Move, opens, closes, stays}
use Rattle.ir_parse_parts.specs.declared.fault.TokenFault.{TokenFault}
use Rattle.ir_parse_parts.specs.declared.fault.TokenFault.TheVariants.{Syntax, Number, Limit}
use Rattle.ir_parse_parts.specs.Forms as form
use Rattle.ir_parse_parts.specs.Lawful.{IsRanged, SameRefusal}
use Rattle.ir_parse_parts.specs.Readers as reader
use Rattle.ir_parse_parts.specs.Rules.{Rule, disjoint}
use Rattle.ir_parse_parts.specs.Runs.{Step, bad, last, onward}
use Rattle.ir_parse_parts.proofs.Composed.{token_lawful}
use Rattle.ir_parse_parts.proofs.Rules as rules
use Rattle.ir_parse_parts.proofs.Rules.{apart_from}
use Rattle.ir_parse_parts.specs.Brackets.{move_of}
use Rattle.ir_parse_parts.specs.Classes.{tokens, NUMERALS, one_of, one_of_at}
use Rattle.ir_parse_parts.specs.declared.brackets.Bracket.{Bracket}
use Rattle.ir_parse_parts.specs.declared.brackets.Bracket.TheVariants.{Paren, Curly}
use Rattle.ir_parse_parts.specs.Metadata.{META, ends_line, open_behind, ended_by, line_step}
use Rattle.ir_parse_parts.specs.MetadataAt.{PAREN, CURLY, NAMED}
use Rattle.ir_parse_parts.specs.MetadataBehind.{BANG, BRACES, fitting, line_goes_on, line_rest, goes_on_but, named_node, line_end_or, behind_mark, marked, node_yet, node_or_line, behind_name, metadata_behind}
use Rattle.ir_parse_parts.specs.MetadataBehindAt.{line_rest_at, goes_on_but_at, named_node_at, line_end_or_at, behind_mark_at, marked_at, node_yet_at, node_or_line_at, behind_name_at, metadata_behind_at}
use Rattle.ir_parse_parts.proofs.GroupRules.{EVERY, every_class, number_stays, group_rule}
use Rattle.ir_parse_parts.proofs.Nodes.{line_rule}
use Rattle.ir_parse_parts.proofs.Singles.{sample, one_rule, number_real, meta_real, bang_real, meta_rule}

-- ---- the classes but some

abbrev but : List ℕ → List ℕ → List ℕ
but apart [] = []
but apart (n ∷ ns) = cond (contains apart n) (but apart ns) (n ∷ but apart ns)

same : (n m : ℕ) → nat_eq n m ≡ true → n ≡ m
same n m h = grind arith

differ : (a b : Bool) → false ≡ a → a ≡ b → b ≡ true → ⊥
differ a b x y z = cc

kept : (apart ns : List ℕ) (n : ℕ) → contains apart n ≡ false → contains ns n ≡ true → contains (but apart ns) n ≡ true
kept apart [] n a e = e
kept apart (m ∷ ms) n a e = by_tests (λ d. kept apart ms n a d) (contains apart m) refl (nat_eq n m) refl e
  where
    by_tests : (contains ms n ≡ true → contains (but apart ms) n ≡ true) → (b : Bool) → contains apart m ≡ b → (c : Bool) → nat_eq n m ≡ c → c || contains ms n ≡ true → contains (cond b (but apart ms) (m ∷ but apart ms)) n ≡ true
    by_tests again true p true q d = absurd (differ (contains apart n) (contains apart m) (sym a) (ap (contains apart) (same n m q)) p)
    by_tests again true p false q d = again d
    by_tests again false p true q d = ap (λ (c : Bool). c || contains (but apart ms) n) q
    by_tests again false p false q d = ap (λ (c : Bool). c || contains (but apart ms) n) q ∙ again d

abbrev pub others : List ℕ → List ℕ
others apart = but apart EVERY

-- ---- a line that goes on

abbrev Leads : Type 0
Leads = Result (Step (List Bracket)) TokenFault

abbrev refuse : TokenFault → Leads
refuse k = Err k

never_number : (b : Bool) (s : Step (List Bracket)) → cond b (refuse Syntax) (fitting s) ≡ refuse Number → ⊥
never_number true s e = cc
never_number false bad e = cc
never_number false last e = cc
never_number false (onward bs) e = cc

never_limit : (b : Bool) (s : Step (List Bracket)) → cond b (refuse Syntax) (fitting s) ≡ refuse Limit → ⊥
never_limit true s e = cc
never_limit false bad e = cc
never_limit false last e = cc
never_limit false (onward bs) e = cc

fits : (b ends : Bool) (m : Move Bracket) → b ≡ false → m ≡ stays → (r : Leads) → SameRefusal (cond b (refuse Syntax) (fitting (ended_by ends (open_behind m [])))) r
fits true ends m e d r = absurd cc
fits false true stays e d r = tt
fits false false stays e d r = tt
fits false ends (opens c) e d r = absurd cc
fits false ends (closes c) e d r = absurd cc

is_false : (b : Bool) → (b ≡ true → ⊥) → b ≡ false
is_false true never = absurd (never refl)
is_false false never = refl

module _ (apart : List ℕ) (no_numbers : disjoint NUMERALS apart ≡ true) where
  goes_on_ranged : IsRanged tokens (line_goes_on apart)
  unfolding line_goes_on
  goes_on_ranged = record {
    range = λ t e. absurd (never_number (among tokens apart t) (line_step [] t) e);
    alike = λ t u n m. fits (among tokens apart t) t.ends_line (move_of t.kind) (is_false _ (apart_from NUMERALS apart no_numbers (number t.kind) n)) (number_stays t.kind n) _;
    never = λ t e. never_limit (among tokens apart t) (line_step [] t) e;
  }

  goes_on_begins : (t : Tok) (s : Step (List Bracket)) → line_goes_on apart t ≡ Ok s → among tokens (others apart) t ≡ true
  unfolding line_goes_on
  goes_on_begins t s e = by_test (among tokens apart t) refl e
    where
      by_test : (b : Bool) → among tokens apart t ≡ b → cond b (refuse Syntax) (fitting (line_step [] t)) ≡ Ok s → among tokens (others apart) t ≡ true
      by_test true d e = absurd cc
      by_test false d e = kept apart EVERY (number t.kind) d (every_class t.kind)

  first_rule : (s : Step (List Bracket)) → line_goes_on apart (sample forms.Number kinds.Number (codes "1")) ≡ Ok s → Rule tokens (form.token (line_goes_on apart)) (form.token (line_goes_on apart)) (reader.token_at (line_goes_on apart)) (others apart) [] false
  first_rule s e = record { law = token_lawful tokens (line_goes_on apart) (among tokens (others apart)) goes_on_ranged goes_on_begins (sample forms.Number kinds.Number (codes "1")) s e number_real }

line_rest_rule : (s : Step (List Bracket)) → Rule tokens (line_rest s) (line_rest s) (line_rest_at s) EVERY [] true
line_rest_rule bad = rules.wider tokens _ _ (rules.nothing tokens tt) refl refl
line_rest_rule last = rules.wider tokens _ _ (rules.nothing tokens tt) refl refl
line_rest_rule (onward bs) = rules.wider tokens _ _ (line_rule bs) refl refl

goes_on_plainly_rule : Rule tokens (goes_on_but META) (goes_on_but META) (goes_on_but_at META) (others META) [] false
unfolding goes_on_but goes_on_but_at line_goes_on
goes_on_plainly_rule = rules.broader tokens _ _ (rules.seq tokens (first_rule META refl (onward []) refl) line_rest_rule refl) refl refl

goes_on_without_group_rule : Rule tokens (goes_on_but BRACES) (goes_on_but BRACES) (goes_on_but_at BRACES) (others BRACES) [] false
unfolding goes_on_but goes_on_but_at line_goes_on
goes_on_without_group_rule = rules.broader tokens _ _ (rules.seq tokens (first_rule BRACES refl (onward []) refl) line_rest_rule refl) refl refl

-- ---- nodes and lines

named_node_rule : Rule tokens named_node named_node named_node_at NAMED PAREN false
unfolding named_node named_node_at
named_node_rule = rules.seq tokens meta_rule (λ _. rules.seq tokens (rules.maybe tokens PAREN (group_rule Paren) refl) (λ _. rules.nothing tokens _) refl) refl

line_end_or_rule : (ends : Bool) → Rule tokens (line_end_or BRACES ends) (line_end_or BRACES ends) (line_end_or_at BRACES ends) (others BRACES) [] true
line_end_or_rule true = rules.wider tokens _ _ (rules.nothing tokens _) refl refl
line_end_or_rule false = rules.wider tokens _ _ (rules.seq tokens goes_on_without_group_rule (λ _. rules.nothing tokens _) refl) refl refl

behind_mark_rule : (ends : Bool) → Rule tokens (behind_mark ends) (behind_mark ends) (behind_mark_at ends) EVERY BRACES true
unfolding behind_mark behind_mark_at
behind_mark_rule ends = rules.wider tokens _ _ (rules.alt tokens CURLY (rules.seq tokens (group_rule Curly) (λ _. rules.nothing tokens _) refl) (rules.alt tokens PAREN (rules.seq tokens (group_rule Paren) (λ _. rules.nothing tokens _) refl) (line_end_or_rule ends) refl refl) refl refl) refl refl

marked_rule : Rule tokens marked marked marked_at BANG BRACES false
unfolding marked marked_at
marked_rule = rules.seq tokens (one_rule BANG ends_line (sample forms.Meta kinds.Bang (codes "!")) refl bang_real) behind_mark_rule refl

pub node_yet_rule : Rule tokens node_yet node_yet node_yet_at META BRACES false
unfolding node_yet node_yet_at
node_yet_rule = rules.broader tokens _ _ (rules.alt tokens NAMED named_node_rule marked_rule refl refl) refl refl

node_or_line_rule : Rule tokens node_or_line node_or_line node_or_line_at EVERY BRACES false
unfolding node_or_line node_or_line_at
node_or_line_rule = rules.broader tokens _ _ (rules.alt tokens NAMED named_node_rule (rules.alt tokens BANG marked_rule (rules.seq tokens goes_on_plainly_rule (λ _. rules.nothing tokens _) refl) refl refl) refl refl) refl refl

behind_name_rule : (ends : Bool) → Rule tokens (behind_name ends) (behind_name ends) (behind_name_at ends) EVERY BRACES true
behind_name_rule true = rules.wider tokens _ _ (rules.nothing tokens _) refl refl
behind_name_rule false = rules.wider tokens _ _ node_or_line_rule refl refl

pub metadata_behind_rule : Rule tokens metadata_behind metadata_behind metadata_behind_at META BRACES false
unfolding metadata_behind metadata_behind_at
metadata_behind_rule = rules.seq tokens (one_rule META ends_line (sample forms.Meta kinds.Meta (codes "!a")) refl meta_real) behind_name_rule refl
