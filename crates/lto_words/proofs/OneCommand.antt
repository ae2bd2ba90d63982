-- Words are one command at most.
use Rattle.std.proofs.Common.{◌≡◌, ◌∙◌, ◌<◌, ℕ, sym, ap, ap₂, refl, Bool, true, false, List, [], ◌∷◌, length, map, Option, Some, None, codes}
use Rattle.std.specs.Prelude.{MatchOption}
use Rattle.clap.specs.Words.{Row, Text, all_of, first_of}
use Rattle.lto_words.specs.Table.{Numbered, import_limit, inline_limit, jobs, modules, seed, steps}
use Rattle.lto_words.specs.Values.{AreDecimals, AreNames, IsName, WritesNumber}
use Rattle.lto_words.specs.Given.{HasArgs, HasCache, HasExports, HasFile, HasFiles, HasNumber, HasRoot, OrDefault}
use Rattle.lto_words.specs.Commands.{HasLinkOptions, IsBatch, IsCommand, IsGen, IsIndex, IsLink, IsRun, Means, MeansEntered, entered, kind_named, without_words}
use Rattle.lto_words.specs.Laws.{OneCommand}
use Rattle.lto_words.specs.declared.list.Decimal.{Decimal}
use Rattle.lto_words.specs.declared.request.Command.{Command}
use Rattle.lto_words.specs.declared.request.Command.TheVariants.{Link, Batch, Index, Run, Gen}
use Rattle.lto_words.specs.declared.request.CommandKind.{CommandKind}
use Rattle.lto_words.specs.declared.request.CommandKind.TheVariants as kind
use Rattle.lto_words.specs.declared.request.LinkOptions.{LinkOptions}

one_value : {T : Type 0} (D : T → Type 0) (M : Text → T → Type 0) (o : Option Text) (x y : T)
    → (D x → D y → x ≡ y) → ((t : Text) → M t x → M t y → x ≡ y) → OrDefault D M o x → OrDefault D M o y → x ≡ y
one_value D M None x y d m h k = d h k
one_value D M (Some t) x y d m h k = m t h k

one_number : (o : Numbered) (rows : List Row) (m n : ℕ) → HasNumber o rows m → HasNumber o rows n → m ≡ n
one_number o rows m n = one_value (λ n. o.default ≡ Some n) (WritesNumber o.least o.most) (first_of o.name rows) m n (λ h k. cc) (λ t h k. h.value ∙ sym k.value)

one_name : (t x y : Text) → IsName t x → IsName t y → x ≡ y
one_name t x y h k = h.1 ∙ sym k.1

one_cache : (rows : List Row) (x y : Option Text) → HasCache rows x → HasCache rows y → x ≡ y
one_cache rows x y h k = go (first_of (codes "cache") rows) x y h k
  where
    go : (o : Option Text) (x y : Option Text) → MatchOption o (x ≡ None) (λ t. MatchOption x ⊥ (IsName t)) → MatchOption o (y ≡ None) (λ t. MatchOption y ⊥ (IsName t)) → x ≡ y
    go None x y h k = h ∙ sym k
    go (Some t) None y h k = absurd h
    go (Some t) (Some x) None h k = absurd k
    go (Some t) (Some x) (Some y) h k = ap (λ z. Some z) (one_name t x y h k)

one_exports : (rows : List Row) (x y : List Text) → HasExports rows x → HasExports rows y → x ≡ y
one_exports rows x y = one_value (λ names. names ≡ codes "main" ∷ []) AreNames (first_of (codes "export") rows) x y (λ h k. h ∙ sym k) (λ t h k. h.1 ∙ sym k.1)

one_root : (rows : List Row) (x y : Text) → HasRoot rows x → HasRoot rows y → x ≡ y
one_root rows x y = one_value (λ name. name ≡ codes "main") IsName (first_of (codes "root") rows) x y (λ h k. h ∙ sym k) (λ t. one_name t x y)

same_somes : (xs ys : List Decimal) → map (λ d. Some d) xs ≡ map (λ d. Some d) ys → xs ≡ ys
same_somes [] [] e = refl
same_somes [] (y ∷ ys) e = absurd (cc)
same_somes (x ∷ xs) [] e = absurd (cc)
same_somes (x ∷ xs) (y ∷ ys) e =
    let rest : map (λ d. Some d) xs ≡ map (λ d. Some d) ys = cc in
    let first : x ≡ y = cc in
    ap₂ (λ (a : Decimal) (b : List Decimal). a ∷ b) first (same_somes xs ys rest)

one_args : (rows : List Row) (x y : List Decimal) → HasArgs rows x → HasArgs rows y → x ≡ y
one_args rows x y = one_value (λ numbers. numbers ≡ []) AreDecimals (first_of (codes "args") rows) x y (λ h k. h ∙ sym k) (λ t h k. same_somes x y (sym h ∙ k))

one_file : (id : Text) (rows : List Row) (x y : Text) → HasFile id rows x → HasFile id rows y → x ≡ y
one_file id rows x y = one_value (λ _. ⊥) IsName (first_of id rows) x y (λ h k. absurd h) (λ t. one_name t x y)

one_list : (rows : List Row) (x y : List Text) → HasFiles rows x → HasFiles rows y → x ≡ y
one_list rows x y h k = let e = h.0 in let f = k.0 in cc

one_options : (rows : List Row) (x y : LinkOptions) → HasLinkOptions rows x → HasLinkOptions rows y → x ≡ y
one_options rows x y h k =
    let a = one_number jobs rows x.jobs y.jobs h.jobs k.jobs in
    let b = one_cache rows x.cache y.cache h.cache k.cache in
    let c = one_exports rows x.exports y.exports h.exports k.exports in
    let d = one_number import_limit rows x.import_limit y.import_limit h.import_limit k.import_limit in
    let e = one_number inline_limit rows x.inline_limit y.inline_limit h.inline_limit k.inline_limit in
    λ i. record { jobs = a i; cache = b i; exports = c i; import_limit = d i; inline_limit = e i }

one_link : (rows : List Row) (c d : Command) → IsLink rows c → IsLink rows d → c ≡ d
one_link rows (Link o out files) (Link p name list) h k =
    let a = one_options rows o p h.0 k.0 in
    let b = one_file (codes "o") rows out name h.1 k.1 in
    let e = one_list rows files list h.2 k.2 in
    λ i. Link (a i) (b i) (e i)
one_link rows (Link o out files) d h k = absurd k
one_link rows c d h k = absurd h

one_batch : (rows : List Row) (c d : Command) → IsBatch rows c → IsBatch rows d → c ≡ d
one_batch rows (Batch o list) (Batch p name) h k =
    let a = one_options rows o p h.0 k.0 in
    let b = one_file (codes "LISTFILE") rows list name h.1 k.1 in
    λ i. Batch (a i) (b i)
one_batch rows (Batch o list) d h k = absurd k
one_batch rows c d h k = absurd h

one_index : (rows : List Row) (c d : Command) → IsIndex rows c → IsIndex rows d → c ≡ d
one_index rows (Index exports limit files) (Index names number list) h k =
    let a = one_exports rows exports names h.0 k.0 in
    let b = one_number import_limit rows limit number h.1 k.1 in
    let e = one_list rows files list h.2 k.2 in
    λ i. Index (a i) (b i) (e i)
one_index rows (Index exports limit files) d h k = absurd k
one_index rows c d h k = absurd h

one_run : (rows : List Row) (c d : Command) → IsRun rows c → IsRun rows d → c ≡ d
one_run rows (Run root args limit files) (Run name numbers number list) h k =
    let a = one_root rows root name h.0 k.0 in
    let b = one_args rows args numbers h.1 k.1 in
    let e = one_number steps rows limit number h.2 k.2 in
    let f = one_list rows files list h.3 k.3 in
    λ i. Run (a i) (b i) (e i) (f i)
one_run rows (Run root args limit files) d h k = absurd k
one_run rows c d h k = absurd h

one_gen : (rows : List Row) (c d : Command) → IsGen rows c → IsGen rows d → c ≡ d
one_gen rows (Gen first count workers) (Gen other number others) h k =
    let a = one_number seed rows first other h.0 k.0 in
    let b = one_number modules rows count number h.1 k.1 in
    let e = one_number jobs rows workers others h.2 k.2 in
    λ i. Gen (a i) (b i) (e i)
one_gen rows (Gen first count workers) d h k = absurd k
one_gen rows c d h k = absurd h

one_of_kind : (k : CommandKind) (rows : List Row) (c d : Command) → Means k rows c → Means k rows d → c ≡ d
one_of_kind kind.Link = one_link
one_of_kind kind.Batch = one_batch
one_of_kind kind.Index = one_index
one_of_kind kind.Run = one_run
one_of_kind kind.Gen = one_gen

one_entered : (found : Option (Text × List Row)) (c d : Command) → MeansEntered found c → MeansEntered found d → c ≡ d
one_entered None c d h k = absurd h
one_entered (Some p) c d h k = go (kind_named p.0) h k
  where
    go : (o : Option CommandKind) → MatchOption o ⊥ (λ x. Means x p.1 c) → MatchOption o ⊥ (λ x. Means x p.1 d) → c ≡ d
    go None h k = absurd h
    go (Some x) h k = one_of_kind x p.1 c d h k

pub one_command : OneCommand
one_command [] c d h k = h ∙ sym k
one_command (word ∷ words) c d h k = one_entered (entered (word ∷ words)) c d h.means k.means
