-- Names by the text of their path.
use Rattle.std.proofs.Common.{◌≡◌, ◌==◌, ◌||◌, ℕ, Bool, true, false, cond, List, [], ◌∷◌, refl, ap, sym, ◌∙◌, subst}
use Rattle.std.proofs.Common.{◌⊎◌, inl, inr, Option, Some, None, IsSome}
use Rattle.std.specs.Prelude.{⊤, is_some}
use Rattle.std.specs.Option.{option_map}
use Rattle.std.specs.List.{AllByRecursion, list_any}
use Rattle.std.specs.List.Sorted.{IsStrictlySortedBy}
use Rattle.std.specs.Ordering.{nat_cmp, eq_by_cmp, is_eq}
use Rattle.std.specs.declared.cmp.Ordering.{Ordering}
use Rattle.std.specs.declared.cmp.Ordering.TheVariants.{Less, Equal, Greater}
use Rattle.std.specs.Cmp.{IsTotalOrder, eq_by_cmp_equiv}
use Rattle.std.specs.Cmp.Lexicographic.{slice_cmp, lists_total, nat_list_cmp_total}
use Rattle.std.specs.Map.{lookup, keys_of, values_of}
use Rattle.std.specs.FinMap as map
use Rattle.std.specs.FinMap.{find, same_map, get-from_entries, get-insert, get-remove, nat_cmp-IsAntisymmetric}
use Rattle.std.specs.FinMap.{slice_cmp-IsAntisymmetric, IsAntisymmetric}
use Rattle.std.specs.BTreeMap as tree
use Rattle.std.specs.BTreeMap.{BTreeMap}
use Rattle.std.proofs.lemmas.Bool.{cases_Bool, or_cases, or_left, or_right, eqb-true, eq-eqb}
use Rattle.folder_tree.specs.Paths.{Parts, parts_cmp, parts_of, path_text}
use Rattle.folder_tree.specs.Tree.{Entry, stored}
use Rattle.folder_tree.specs.TreeOps.{is_named}
use Rattle.folder_tree.specs.Laws.{same_path, is_named-name, name-is_named}
use Rattle.folder_memory.specs.Names.{entry_of, is_number, names_tree, IsPathText, name_entries, names_of, text_cmp}
use Rattle.folder_memory.specs.Names.{AreTexts}
use Rattle.folder_memory.specs.declared.names.Stood.{Stood}
use Rattle.folder_memory.specs.declared.names.Stood.TheVariants.{Directory, File}

pub parts_total : IsTotalOrder parts_cmp
parts_total = lists_total nat_list_cmp_total

pub parts_antisymmetric : IsAntisymmetric parts_cmp
parts_antisymmetric = slice_cmp-IsAntisymmetric (slice_cmp-IsAntisymmetric nat_cmp-IsAntisymmetric)

equal_of : (r : Ordering) → is_eq r ≡ true → r ≡ Equal
equal_of Less e = cc
equal_of Equal e = refl
equal_of Greater e = cc

abbrev same_text : List ℕ → List ℕ → Bool
same_text q text = is_eq (slice_cmp nat_cmp q text)

pub text-same : (q text : List ℕ) → same_text q text ≡ true → q ≡ text
text-same q text e = slice_cmp-IsAntisymmetric nat_cmp-IsAntisymmetric q text (equal_of (slice_cmp nat_cmp q text) e)

same-text : (q text : List ℕ) → q ≡ text → same_text q text ≡ true
same-text q text e = ap (same_text q) (sym e) ∙ (eq_by_cmp_equiv nat_list_cmp_total).refl q

pub same-parts : (p q : Parts) → p ≡ q → eq_by_cmp parts_cmp p q ≡ true
same-parts p q e = ap (eq_by_cmp parts_cmp p) (sym e) ∙ (eq_by_cmp_equiv parts_total).refl p

pub equal_tests : (a b : Bool) → (a ≡ true → b ≡ true) → (b ≡ true → a ≡ true) → a ≡ b
equal_tests true b there back = sym (there refl)
equal_tests false true there back = back refl
equal_tests false false there back = refl

-- texts of paths are the same where their parts are
tests : (q text : List ℕ) → IsPathText q → IsPathText text
    → eq_by_cmp parts_cmp (parts_of q) (parts_of text) ≡ same_text q text
tests q text qp tp = equal_tests (eq_by_cmp parts_cmp (parts_of q) (parts_of text)) (same_text q text)
    (λ e. same-text q text (sym qp ∙ ap path_text (same_path (parts_of q) (parts_of text) e) ∙ tp))
    (λ e. same-parts (parts_of q) (parts_of text) (ap parts_of (text-same q text e)))

map_cond : {X Y : Type 0} (f : X → Y) (b : Bool) (x : X) (o : Option Y) (p : Option X) → o ≡ option_map f p
    → cond b (Some (f x)) o ≡ option_map f (cond b (Some x) p)
map_cond f true x o p e = refl
map_cond f false x o p e = e

pub some_cond : {X : Type 0} (b : Bool) (x : X) (o : Option X) → IsSome o → IsSome (cond b (Some x) o)
some_cond true x o some = refl
some_cond false x o some = some

module _ {K : Type 0} (text : K → List ℕ) where
  abbrev pub Texts : List (K × Stood) → Type 0
  Texts es = AllByRecursion (λ e. IsPathText (text e.0)) es

  abbrev at : List ℕ → K → Ordering
  at q k = slice_cmp nat_cmp q (text k)

  more-found : (e : K × Stood) (whole es : List (K × Stood))
      → AllByRecursion (λ f. IsSome (lookup (tree.is_at (text_cmp text f.0)) whole)) es
      → AllByRecursion (λ f. IsSome (lookup (tree.is_at (text_cmp text f.0)) (e ∷ whole))) es
  more-found e whole [] all = tt
  more-found e whole (f ∷ es) all = (
    some_cond (tree.is_at (text_cmp text f.0) e.0) e.1 (lookup (tree.is_at (text_cmp text f.0)) whole) all.0,
    more-found e whole es all.1,
  )

  all-found : (es : List (K × Stood)) → AllByRecursion (λ e. IsSome (lookup (tree.is_at (text_cmp text e.0)) es)) es
  all-found [] = tt
  all-found (e ∷ es) = (
    ap (λ b. is_some (cond b (Some e.1) (lookup (tree.is_at (text_cmp text e.0)) es)))
        (same-text (text e.0) (text e.0) refl),
    more-found e es es (all-found es),
  )

  texts-by : (m : BTreeMap K Stood) (es : List (K × Stood)) → AreTexts text m
      → AllByRecursion (λ e. IsSome (lookup (tree.is_at (text_cmp text e.0)) m.entries)) es → Texts es
  texts-by m [] are found = tt
  texts-by m (e ∷ es) are found = (are e.0 found.0, texts-by m es are found.1)

  pub texts : (m : BTreeMap K Stood) → AreTexts text m → Texts m.entries
  texts m are = texts-by m m.entries are (all-found m.entries)

  find-name : (q : List ℕ) (es : List (K × Stood)) → IsPathText q → Texts es
      → find parts_cmp (parts_of q) (name_entries text es) ≡ option_map entry_of (lookup (tree.is_at (at q)) es)
  find-name q [] is all = refl
  find-name q (e ∷ es) is all =
      ap (λ b. cond b (Some (entry_of e.1)) (find parts_cmp (parts_of q) (name_entries text es)))
      (tests q (text e.0) is all.0)
      ∙ map_cond entry_of (same_text q (text e.0)) e.1 (find parts_cmp (parts_of q) (name_entries text es))
      (lookup (tree.is_at (at q)) es) (find-name q es is all.1)

  -- what stands at the path of a text
  pub get-name : (s : map.FinMap parts_cmp Entry) (m : BTreeMap K Stood) (q : List ℕ) → names_of text m.entries ≡ s
      → AreTexts text m → IsPathText q
      → map.get s (parts_of q) ≡ option_map entry_of (tree.get_by (at q) m)
  get-name s m q is are qp =
      ap (λ n. map.get n (parts_of q)) (sym is) ∙ get-from_entries parts_total (name_entries text m.entries)
      (parts_of q) ∙ find-name q m.entries qp (texts m are)

  -- something stands at paths of texts alone
  key-or-none : (p : Parts) (es : List (K × Stood)) → Texts es
      → (find parts_cmp p (name_entries text es) ≡ None) ⊎ ((k : K) × IsPathText (text k) × (p ≡ parts_of (text k)))
  key-or-none p [] all = inl refl
  key-or-none p (e ∷ es) all =
      elim (cases_Bool (eq_by_cmp parts_cmp p (parts_of (text e.0))))
      as (λ _. (find parts_cmp p (name_entries text (e ∷ es)) ≡ None)
      ⊎ ((k : K) × IsPathText (text k) × (p ≡ parts_of (text k)))) [
        | inl same ↦ inr (e.0, all.0, same_path p (parts_of (text e.0)) same)
        | inr other ↦ elim (key-or-none p es all.1) as (λ _. (find parts_cmp p (name_entries text (e ∷ es)) ≡ None)
            ⊎ ((k : K) × IsPathText (text k) × (p ≡ parts_of (text k)))) [
              | inl none ↦ inl (ap (λ b. cond b (Some (entry_of e.1)) (find parts_cmp p (name_entries text es))) other
                  ∙ none)
              | inr key ↦ inr key
            ]
      ]

  abbrev Put : BTreeMap K Stood → BTreeMap K Stood → List ℕ → Option Stood → Type 0
  Put old new q w = tree.UpdatesBy (text_cmp text) (at q) old new w

  -- keys are still texts of paths
  pub put-AreTexts : (old new : BTreeMap K Stood) (q : List ℕ) (w : Option Stood) → IsPathText q → AreTexts text old
      → Put old new q w → AreTexts text new
  put-AreTexts old new q w qp are put k some =
      elim (cases_Bool (same_text q (text k))) as (λ _. IsPathText (text k)) [
        | inl same ↦ subst IsPathText (text-same q (text k) same) qp
        | inr other ↦ are k (let P : Option Stood → Type 0 = λ o. IsSome o in subst P (put.2 k other) some)
      ]

  name-stays : (old new : BTreeMap K Stood) (q : List ℕ) (w : Option Stood) (k : K) → IsPathText q → AreTexts text old
      → Put old new q w → IsPathText (text k)
      → same_text q (text k) ≡ false → map.get (names_of text new.entries) (parts_of (text k))
      ≡ map.get (names_of text old.entries) (parts_of (text k))
  name-stays old new q w k qp are put kp other =
      get-name (names_of text new.entries) new (text k) refl (put-AreTexts old new q w qp are put) kp
      ∙ ap (option_map entry_of) (put.2 k other) ∙ sym (get-name (names_of text old.entries) old (text k) refl are kp)

  others-stay : (old new : BTreeMap K Stood) (q : List ℕ) (w : Option Stood) (p : Parts) → IsPathText q
      → AreTexts text old → Put old new q w
      → eq_by_cmp parts_cmp p (parts_of q) ≡ false → map.get (names_of text new.entries) p
      ≡ map.get (names_of text old.entries) p
  others-stay old new q w p qp are put apart =
      let Goal : Type 0 = map.get (names_of text new.entries) p ≡ map.get (names_of text old.entries) p in
      let at-key : (k : K) → IsPathText (text k) → p ≡ parts_of (text k)
      → map.get (names_of text new.entries) p ≡ map.get (names_of text old.entries) p =
      λ k kp here. ap (map.get (names_of text new.entries)) here
      ∙ name-stays old new q w k qp are put kp (elim (cases_Bool (same_text q (text k)))
      as (λ _. same_text q (text k) ≡ false) [
        | inl same ↦ absurd (let yes' : true ≡ false = sym
            (same-parts p (parts_of q) (here ∙ ap parts_of (sym (text-same q (text k) same)))) ∙ apart in
            let none : ⊥ = cc in none)
        | inr other ↦ other
      ])
      ∙ ap (map.get (names_of text old.entries)) (sym here) in
      elim (key-or-none p new.entries (texts new (put-AreTexts old new q w qp are put)))
      as (λ _. map.get (names_of text new.entries) p ≡ map.get (names_of text old.entries) p) [
        | inr key ↦ at-key key.0 key.1 key.2
        | inl gone ↦ elim (key-or-none p old.entries (texts old are))
            as (λ _. map.get (names_of text new.entries) p ≡ map.get (names_of text old.entries) p) [
              | inr key ↦ at-key key.0 key.1 key.2
              | inl none ↦ get-from_entries parts_total (name_entries text new.entries) p ∙ gone
                  ∙ sym (get-from_entries parts_total (name_entries text old.entries) p ∙ none)
            ]
      ]

  answers : (old new : BTreeMap K Stood) (q : List ℕ) (w : Option Stood) (p : Parts) → IsPathText q → AreTexts text old
      → Put old new q w
      → map.get (names_of text new.entries) p ≡ cond (eq_by_cmp parts_cmp p (parts_of q)) (option_map entry_of w)
      (map.get (names_of text old.entries) p)
  answers old new q w p qp are put =
      elim (cases_Bool (eq_by_cmp parts_cmp p (parts_of q)))
      as (λ _. map.get (names_of text new.entries) p
      ≡ cond (eq_by_cmp parts_cmp p (parts_of q)) (option_map entry_of w) (map.get (names_of text old.entries) p)) [
        | inl same ↦ ap (map.get (names_of text new.entries)) (same_path p (parts_of q) same)
            ∙ get-name (names_of text new.entries) new q refl (put-AreTexts old new q w qp are put) qp
            ∙ ap (option_map entry_of) put.1
            ∙ ap (λ b. cond b (option_map entry_of w) (map.get (names_of text old.entries) p)) (sym same)
        | inr apart ↦ others-stay old new q w p qp are put apart
            ∙ ap (λ b. cond b (option_map entry_of w) (map.get (names_of text old.entries) p)) (sym apart)
      ]

  pub put-insert : (s : map.FinMap parts_cmp Entry) (old new : BTreeMap K Stood) (q : List ℕ) (v : Stood) (path : Parts)
      → names_of text old.entries ≡ s → IsPathText q → parts_of q ≡ path → AreTexts text old
      → Put old new q (Some v) → names_of text new.entries ≡ map.insert s path (entry_of v)
  put-insert s old new q v path is qp here are put =
      same_map parts_total parts_antisymmetric (names_of text new.entries)
      (map.insert (names_of text old.entries) (parts_of q) (entry_of v))
      (λ p. answers old new q (Some v) p qp are put
      ∙ sym (get-insert parts_total (names_of text old.entries) (parts_of q) (entry_of v) p))
      ∙ ap (λ m. map.insert m (parts_of q) (entry_of v)) is ∙ ap (λ k. map.insert s k (entry_of v)) here

  pub put-remove : (s : map.FinMap parts_cmp Entry) (old new : BTreeMap K Stood) (q : List ℕ) (path : Parts)
      → names_of text old.entries ≡ s → IsPathText q → parts_of q ≡ path → AreTexts text old
      → Put old new q None → names_of text new.entries ≡ map.remove s path
  put-remove s old new q path is qp here are put =
      same_map parts_total parts_antisymmetric (names_of text new.entries)
      (map.remove (names_of text old.entries) (parts_of q))
      (λ p. answers old new q None p qp are put ∙ sym
      (get-remove parts_total (names_of text old.entries) (parts_of q) p))
      ∙ ap (λ m. map.remove m (parts_of q)) is ∙ ap (λ k. map.remove s k) here

-- the text of a path is one
pub text-IsPathText : (text : List ℕ) (path : Parts) → text ≡ path_text path → parts_of text ≡ path → IsPathText text
text-IsPathText text path is parts = ap path_text parts ∙ sym is

-- ---- names of a number

not_less : (x y : List ℕ) → slice_cmp nat_cmp x y ≡ Less → same_text y x ≡ false
not_less x y less = elim (cases_Bool (same_text y x)) as (λ _. same_text y x ≡ false) [
  | inl same ↦ absurd (let tied : is_eq (slice_cmp nat_cmp x y) ≡ true = same-text x y (sym (text-same y x same)) in
      let bad : is_eq Less ≡ true = sym (ap is_eq less) ∙ tied in let none : ⊥ = cc in none)
  | inr other ↦ other
]

shows_number : (number : ℕ) (o : Option Stood) (v : Stood) → o ≡ Some v → is_number number v ≡ true
    → option_map entry_of o ≡ Some (stored number)
shows_number number o Directory e t = cc
shows_number number o (File other) e t =
    ap (option_map entry_of) e ∙ ap (λ k. Some (stored k)) (sym (eqb-true number other t))

module _ {K : Type 0} (text : K → List ℕ) where
  -- an entry of this number, found by its key
  record Shown (P : K → Type 0) (number : ℕ) (es : List (K × Stood)) : Type 0 where
    key : K
    value : Stood
    holds : P key
    found : lookup (tree.is_at (text_cmp text key)) es ≡ Some value
    is : is_number number value ≡ true

  any-shown : (P : K → Type 0) (number : ℕ) (es : List (K × Stood)) → AllByRecursion P (keys_of es)
      → IsStrictlySortedBy (text_cmp text) (keys_of es) → list_any (is_number number) (values_of es) ≡ true
      → Shown P number es
  unfolding IsStrictlySortedBy
  any-shown P number [] all sorted e = absurd (let none : ⊥ = cc in none)
  any-shown P number (f ∷ es) all sorted e =
      elim (or_cases (is_number number f.1) (list_any (is_number number) (values_of es)) e)
      as (λ _. Shown P number (f ∷ es)) [
        | inl here ↦ record {
          key = f.0;
          value = f.1;
          holds = all.0;
          found = ap
              (λ b. cond b (Some f.1) (lookup (tree.is_at (text_cmp text f.0)) es))
              (same-text (text f.0) (text f.0) refl);
          is = here;
        }
        | inr later ↦
            let rest = any-shown (λ k. P k × (text_cmp text f.0 k ≡ Less)) number es
            (both P (λ k. text_cmp text f.0 k ≡ Less) (keys_of es) all.1 sorted.0) sorted.1 later in
            record {
              key = rest.key;
              value = rest.value;
              holds = rest.holds.0;
              is = rest.is;
              found = ap (λ b. cond b (Some f.1) (lookup (tree.is_at (text_cmp text rest.key)) es))
                  (not_less (text f.0) (text rest.key) rest.holds.1) ∙ rest.found;
            }
      ]
    where
      both : {K : Type 0} (P Q : K → Type 0) (ks : List K) → AllByRecursion P ks → AllByRecursion Q ks
          → AllByRecursion (λ k. P k × Q k) ks
      both P Q [] p q = tt
      both P Q (k ∷ ks) p q = ((p.0, q.0), both P Q ks p.1 q.1)

  named-entry : (number : ℕ) (p : Parts) (es : List (K × Stood))
      → find parts_cmp p (name_entries text es) ≡ Some (stored number)
      → list_any (is_number number) (values_of es) ≡ true
  named-entry number p [] e = cc
  named-entry number p (f ∷ es) e =
      at-entry (eq_by_cmp parts_cmp p (parts_of (text f.0))) number f.1 (find parts_cmp p (name_entries text es))
      (list_any (is_number number) (values_of es)) e (named-entry number p es)
    where
      at-entry : (b : Bool) (number : ℕ) (v : Stood) (o : Option Entry) (rest : Bool)
          → cond b (Some (entry_of v)) o ≡ Some (stored number) → (o ≡ Some (stored number) → rest ≡ true)
          → (is_number number v || rest) ≡ true
      at-entry true number Directory o rest e later = cc
      at-entry true number (File other) o rest e later =
          let same : other ≡ number = cc in or_left (number == other) rest (eq-eqb number other (sym same))
      at-entry false number v o rest e later = or_right (is_number number v) rest (later e)

  top : (ks : List K) → AllByRecursion (λ _. ⊤) ks
  top [] = tt
  top (k ∷ ks) = (tt, top ks)

  -- some value is of this number exactly where some name is
  pub any-named : (s : map.FinMap parts_cmp Entry) (m : BTreeMap K Stood) (number : ℕ) → names_of text m.entries ≡ s
      → AreTexts text m → tree.IsOrdered (text_cmp text) m
      → list_any (is_number number) (tree.values m) ≡ is_named (names_tree s) number
  any-named s m number is are ordered =
      equal_tests (list_any (is_number number) (tree.values m)) (is_named (names_tree s) number)
      (λ e. let one = any-shown (λ _. ⊤) number m.entries (top (keys_of m.entries)) ordered e in
      let some : IsSome (tree.get (text_cmp text) m one.key) = ap is_some one.found in
      is_named-name (names_tree s) (parts_of (text one.key)) number
      (get-name text s m (text one.key) is are (are one.key some)
      ∙ shows_number number (tree.get (text_cmp text) m one.key) one.value one.found one.is))
      (λ e. let name = name-is_named (names_tree s) number e in
      named-entry number name.0 m.entries (sym (get-from_entries parts_total (name_entries text m.entries) name.0)
      ∙ ap (λ n. map.get n name.0) is ∙ name.1))

pub any-met : (number : ℕ) (v : Stood) (values rest : List Stood) → values ≡ v ∷ rest → is_number number v ≡ true
    → true ≡ list_any (is_number number) values
any-met number v values rest is yes' =
    sym (ap (list_any (is_number number)) is ∙ or_left (is_number number v) (list_any (is_number number) rest) yes')

pub any-end : (number : ℕ) (values : List Stood) → values ≡ [] → false ≡ list_any (is_number number) values
any-end number values is = sym (ap (list_any (is_number number)) is)
