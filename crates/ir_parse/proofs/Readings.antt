-- There is one reading, or one first fault.
use Rattle.std.proofs.Common.{◌≡◌, ℕ, Bool, true, false, ◌⊎◌, inl, inr, List, Result, Ok, Err, refl, sym, ap, subst, ◌∙◌}
use Rattle.std.specs.Prelude.{IfOk, IfErr}
use Rattle.ir_lex.specs.Lexing.{AreTokens, AreTokensBefore, IsLexed}
use Rattle.ir_lex.specs.Tok.{Tok}
use Rattle.ir_lex.proofs.Total.{every_text}
use Rattle.ir_parse_parts.specs.declared.fault.Fault as grammar
use Rattle.ir_parse_names.specs.declared.fault.Fault as names
use Rattle.ir_parse_parts.specs.declared.raw.Item.{Item}
use Rattle.ir_tree.specs.declared.module.Module.{Module}
use Rattle.ir_parse.specs.Modules.{module_of, whole_module}
use Rattle.ir_parse.specs.Lines.{lines_of}
use Rattle.ir_tree.specs.Failures.{IfFault}
use Rattle.ir_parse.specs.Answers.{IsNameFault, IsRead, IsRefused}
use Rattle.ir_parse.specs.FirstFault.{FirstFault, GrammarFault, Stuck}
use Rattle.ir_parse.specs.Kinds.{name_fault}
use Rattle.ir_parse.specs.Laws.{Apart, Decided, OneFault, OneReading}
use Rattle.ir_parse.specs.Reading.{Reads}
use Rattle.ir_parse.specs.Stages.{module_in}
use Rattle.ir_tree.specs.declared.fault_kind.FaultKind.{FaultKind}
use Rattle.ir_tree.specs.declared.failure.Failure.{Failure}
use Rattle.ir_tree.specs.declared.failure.Failure.TheVariants as errors
use Rattle.ir_parse.specs.declared.fault.ReadFault.{ReadFault}
use Rattle.ir_parse.proofs.Stuck.{not_stuck, one_list, one_place, read_so, stuck_at, stuck_behind}
use Rattle.ir_parse.proofs.Lexed.{one_text}

-- the items of a text that is in the grammar
same_items : (bytes : List ℕ) (ts us : List Tok) (is js : List Item) → AreTokens bytes ts → AreTokens bytes us → whole_module ts is → whole_module us js → is ≡ js
same_items bytes ts us is js c d s r =
    let t = one_text bytes ts us true true c.0 d.0 c.1 d.1 in
    one_list us is js (subst (λ (vs : List Tok). whole_module vs is) t.0 s) r

one_ok : {A E : Type 0} (r : Result A E) (x y : A) → r ≡ Ok x → r ≡ Ok y → x ≡ y
one_ok r x y e d = cc

one_err : {A E : Type 0} (r : Result A E) (x y : E) → r ≡ Err x → r ≡ Err y → x ≡ y
one_err r x y e d = cc

not_both : {A E : Type 0} (r : Result A E) (x : A) (y : E) → r ≡ Ok x → r ≡ Err y → ⊥
not_both r x y e d = cc

pub reading_once : OneReading
reading_once bytes m n lines others r s =
    let same : r.items ≡ s.items = same_items bytes r.written s.written r.items s.items r.cut s.cut r.spelled s.spelled in
    (one_ok (module_in s.items) m n (ap module_in (sym same) ∙ r.stand) s.stand, r.lined ∙ ap lines_of same ∙ sym s.lined)

in_grammar : (bytes : List ℕ) (ts : List Tok) (is : List Item) (line : ℕ) (kind : FaultKind) → AreTokens bytes ts → whole_module ts is → GrammarFault bytes line kind → ⊥
in_grammar bytes ts is line kind c h g = at g.written g.whole g.end (one_text bytes g.written ts g.whole true g.end c.0 g.cut c.1) g.first
  where
    at : (us : List Tok) (b : Bool) (end : ℕ) → (us ≡ ts) × (b ≡ true) × (end ≡ c.0) → Stuck us b end line kind → ⊥
    at us b end e s =
        not_stuck ts is end line kind h
        (subst (λ (b : Bool). Stuck ts b end line kind) e.1 (subst (λ (vs : List Tok). Stuck vs b end line kind) e.0 s))

pub apart : Apart
apart bytes m lines line kind r (inl g) = in_grammar bytes r.written r.items line kind r.cut r.spelled g
apart bytes m lines line kind r (inr g) =
    let same : r.items ≡ g.items = same_items bytes r.written g.written r.items g.items r.cut g.cut r.spelled g.spelled in
    not_both (module_in g.items) m g.fault (ap module_in (sym same) ∙ r.stand) g.found

pub fault_once : OneFault
fault_once bytes line here kind other (inl g) (inl h) = at h.written h.whole h.end (one_text bytes h.written g.written h.whole g.whole h.end g.end h.cut g.cut) h.first
  where
    at : (us : List Tok) (b : Bool) (end : ℕ) → (us ≡ g.written) × (b ≡ g.whole) × (end ≡ g.end) → Stuck us b end here other → (line ≡ here) × (kind ≡ other)
    at us b end e s =
        one_place g.written g.whole g.end line here kind other g.first
        (subst (λ (n : ℕ). Stuck g.written g.whole n here other) e.2 (subst (λ (b : Bool). Stuck g.written b end here other) e.1 (subst (λ (vs : List Tok). Stuck vs b end here other) e.0 s)))
fault_once bytes line here kind other (inl g) (inr h) = absurd (in_grammar bytes h.written h.items line kind h.cut h.spelled g)
fault_once bytes line here kind other (inr g) (inl h) = absurd (in_grammar bytes g.written g.items here other g.cut g.spelled h)
fault_once bytes line here kind other (inr g) (inr h) =
    let same : g.items ≡ h.items = same_items bytes g.written h.written g.items h.items g.cut h.cut g.spelled h.spelled in
    let faults : g.fault ≡ h.fault = one_err (module_in h.items) g.fault h.fault (ap module_in (sym same) ∙ g.found) h.found in
    (g.place ∙ ap (λ (f : names.Fault). f.line) faults ∙ sym h.place, g.told ∙ ap (λ (f : names.Fault). name_fault f.kind) faults ∙ sym h.told)

-- ---- every text has one of them

abbrev Answer : List ℕ → Type 0
Answer bytes = ((m : Module) × (lines : List (List ℕ)) × Reads bytes m lines) ⊎ ((line : ℕ) × (kind : FaultKind) × FirstFault bytes line kind)

by_names : (bytes : List ℕ) (ts : List Tok) (is : List Item) → AreTokens bytes ts → whole_module ts is → (r : Result Module names.Fault) → module_in is ≡ r → Answer bytes
by_names bytes ts is c s (Ok m) e = inl (m, lines_of is, record { written = ts; items = is; cut = c; spelled = s; stand = e; lined = refl })
by_names bytes ts is c s (Err f) e = inr (f.line, name_fault f.kind, inr (record { written = ts; items = is; cut = c; spelled = s; fault = f; found = e; place = refl; told = refl }))

by_grammar : (bytes : List ℕ) (ts : List Tok) (b : Bool) (end : ℕ) → IsLexed bytes ts b end → (r : Result (List Item) grammar.Fault) → module_of ts ≡ r → Answer bytes
by_grammar bytes ts true end c (Ok is) e = by_names bytes ts is (end, c) (read_so ts is e) (module_in is) refl
by_grammar bytes ts false end c (Ok is) e = inr (_, _, inl (record { written = ts; whole = false; end = end; cut = c; first = stuck_behind ts is end (read_so ts is e) }))
by_grammar bytes ts b end c (Err f) e = inr (_, _, inl (record { written = ts; whole = b; end = end; cut = c; first = stuck_at ts b end f _ e refl }))

pub decided : Decided
decided bytes = by (every_text bytes)
  where
    by : ((ts : List Tok) × AreTokens bytes ts) ⊎ ((ts : List Tok) × (line : ℕ) × AreTokensBefore bytes ts line) → Answer bytes
    by (inl (ts, c)) = by_grammar bytes ts true c.0 c.1 (module_of ts) refl
    by (inr (ts, line, c)) = by_grammar bytes ts false line c (module_of ts) refl

-- ---- what the reader answers

pub reads_so : (bytes : List ℕ) (ts : List Tok) (is : List Item) (b : Bool) (end : ℕ) (m : Module) (lines : List (List ℕ)) → IsLexed bytes ts b end → (b ≡ true) × whole_module ts is → module_in is ≡ Ok m → lines ≡ lines_of is → Reads bytes m lines
reads_so bytes ts is b end m lines c s e l = record { written = ts; items = is; cut = (end, subst (λ (d : Bool). IsLexed bytes ts d end) s.0 c); spelled = s.1; stand = e; lined = l }

pub grammar_so : (bytes : List ℕ) (ts : List Tok) (b : Bool) (end line : ℕ) (kind : FaultKind) → IsLexed bytes ts b end → Stuck ts b end line kind → FirstFault bytes line kind
grammar_so bytes ts b end line kind c s = inl (record { written = ts; whole = b; end = end; cut = c; first = s })

pub names_so : (bytes : List ℕ) (ts : List Tok) (is : List Item) (b : Bool) (end : ℕ) (f : ReadFault) → IsLexed bytes ts b end → (b ≡ true) × whole_module ts is → (fault : names.Fault) × (module_in is ≡ Err fault) × IsNameFault fault f → FirstFault bytes f.line f.kind
names_so bytes ts is b end f c s (fault, e, n) =
    inr (record { written = ts; items = is; cut = (end, subst (λ (d : Bool). IsLexed bytes ts d end) s.0 c); spelled = s.1; fault = fault; found = e; place = n.0; told = n.1 })

abbrev Read : Type 0
Read = Result (Module × List (List ℕ)) (Failure ReadFault)

pub only_so : (bytes : List ℕ) (r : Read) → IfOk r (λ p. Reads bytes p.0 p.1) → IfErr r (λ e. IfFault e (λ f. FirstFault bytes f.line f.kind)) → (m : Module) (lines : List (List ℕ)) → Reads bytes m lines → IsRead m lines r
only_so bytes (Ok p) found fault m lines s = reading_once bytes p.0 m p.1 lines found s
only_so bytes (Err errors.NoMemory) found fault m lines s = tt
only_so bytes (Err (errors.Fault f)) found fault m lines s = apart bytes m lines f.line f.kind s fault

pub refused_so : (bytes : List ℕ) (r : Read) → IfOk r (λ p. Reads bytes p.0 p.1) → IfErr r (λ e. IfFault e (λ f. FirstFault bytes f.line f.kind)) → (line : ℕ) (kind : FaultKind) → FirstFault bytes line kind → IsRefused line kind r
refused_so bytes (Ok p) found fault line kind s = apart bytes p.0 p.1 line kind found s
refused_so bytes (Err errors.NoMemory) found fault line kind s = tt
refused_so bytes (Err (errors.Fault f)) found fault line kind s = fault_once bytes f.line line f.kind kind fault s
