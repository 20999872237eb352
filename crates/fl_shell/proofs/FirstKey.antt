-- What the groups of all rows tell of the first key of a table.
use Rattle.std.proofs.Common.{◌≡◌, ℕ, zero, suc, ◌+◌, ◌-◌, ◌*◌, ◌%◌, ◌^◌, ◌<◌, ◌≤◌, true, false, cond, eqb, nat_lt, Bool, ℤ, Option, Some, None, Result, Ok, Err, List, [], ◌∷◌, ◌++◌, length, filter, map, codes, refl, sym, ◌∙◌, ap, subst, append_assoc, length-append, lit≤, arith}
use Rattle.std.specs.Prelude.{decimal, slice_get, MatchBool, MatchOption}
use Rattle.std.specs.Fmt.{signed_decimal}
use Rattle.std.specs.List.{AllByRecursion, starts_with}
use Rattle.std.proofs.Math.Nat.{div-le_of_le-mul, pow-le-pow_right}
use Rattle.std.proofs.lemmas.Bool.Decides.{nat_tests}
use Rattle.std.proofs.lemmas.Fmt.{decimal_by_steps_wide}
use Rattle.std.proofs.lemmas.List.{length-map}
use Rattle.std.proofs.lemmas.List.Elements.{All-from_recursion}
use Rattle.std.proofs.lemmas.List.Splits.{slice_split_at}
use Rattle.fl_base.specs.Causes.{HasCause}
use Rattle.fl_base.specs.declared.stream.SinkFailed.{SinkFailed}
use Rattle.fl_flash.specs.Flash.{FlashState}
use Rattle.fl_image.proofs.LineWords.{IsWord}
use Rattle.fl_machine.proofs.LoggedPuts.{located-is}
use Rattle.fl_machine.specs.Machine.{Machine}
use Rattle.fl_machine.specs.Small.{AreTables}
use Rattle.fl_machine.specs.Step.{Counts, Located, Moment, Says, Step, StepOf, WithColumns, group_reply, located, no_column, records_of}
use Rattle.fl_model.proofs.Lists.{slice_get-some, slice_get-short, length-filter-le, each-append, each-weaker, each-filter, each-at}
use Rattle.fl_model.specs.Facts.{FitsPlan, IsTable}
use Rattle.fl_model.specs.Operators.{aggregate}
use Rattle.fl_model.specs.Query.{matches, selected}
use Rattle.fl_model.specs.Record.{Config, Plan, Record}
use Rattle.fl_model.specs.Table.{Entry}
use Rattle.fl_script.specs.Written.{Written}
use Rattle.fl_queries.specs.Keys.{all_keys}
use Rattle.fl_session.specs.Execute.{Executes}
use Rattle.fl_words.specs.Grammar.{words_in}
use Rattle.fl_words.specs.Reply as reply
use Rattle.fl_words.specs.Reply.{Reply, text, texts}
use Rattle.fl_shell.specs.FirstKey.{BeginsShort, IsBelow}
use Rattle.fl_shell.specs.Heard.{Kept, IsFullOnFault}
use Rattle.fl_shell.specs.Refusal.{line_of}
use Rattle.fl_shell.specs.Talk.{first_text, groups_of}
use Rattle.fl_shell.specs.Turning.{TellsFirst}
use Rattle.fl_shell.proofs.TableFlushes.{heard-all, heard-over, unsaid}
use Rattle.fl_shell.proofs.GroupLines.{AreHalves, all-groups, begins-short, replies-short}

-- ---- the rows of a table

key-within : (plan : Plan) (entry : Entry) → plan.key_bytes ≤ 8 → FitsPlan plan entry → entry.kept.key < 2 ^ 64
key-within plan entry le fits =
    let few : 8 * plan.key_bytes ≤ 64 = omega (arith, le) in
    let pow : 2 ^ (8 * plan.key_bytes) ≤ 2 ^ 64 = pow-le-pow_right (omega arith) few in
    let key : entry.kept.key ≤ 2 ^ (8 * plan.key_bytes) - 1 = fits.key in
    omega (arith, pow, key)

abbrev Ascend : List Entry → Type 0
Ascend entries = (i j : ℕ) (a b : Entry) → i < j → slice_get entries i ≡ Some a → slice_get entries j ≡ Some b → a.kept.key < b.kept.key

key-above : (entries : List Entry) → Ascend entries → (i : ℕ) (a : Entry) → slice_get entries i ≡ Some a → i ≤ a.kept.key
key-above entries up zero a e = omega arith
key-above entries up (suc i) a e =
    let b = slice_get-some entries i (omega (arith, slice_get-short entries (suc i) a e)) in
    omega (arith, key-above entries up i b.0 b.1, up i (suc i) b.0 a (omega arith) b.1 e)

entries-few : (entries : List Entry) → Ascend entries → AllByRecursion (λ (entry : Entry). entry.kept.key < 2 ^ 64) entries → length entries ≤ 2 ^ 64
entries-few [] up all = omega arith
entries-few (entry ∷ entries) up all =
    let last = slice_get-some (entry ∷ entries) (length entries) (omega arith) in
    omega (arith, key-above (entry ∷ entries) up (length entries) last.0 last.1, each-at (λ (entry : Entry). entry.kept.key < 2 ^ 64) (entry ∷ entries) (length entries) last.0 all last.1)

keys-within : (plan : Plan) (entries : List Entry) → plan.key_bytes ≤ 8 → AllByRecursion (FitsPlan plan) entries → AllByRecursion (λ (entry : Entry). entry.kept.key < 2 ^ 64) entries
keys-within plan entries le all = each-weaker (FitsPlan plan) (λ (entry : Entry). entry.kept.key < 2 ^ 64) (λ entry fit. key-within plan entry le fit) entries all

kept-within : (width : ℕ) (entries : List Entry) → 2 ^ 64 - 1 ≤ width → AllByRecursion (λ (entry : Entry). entry.kept.key < 2 ^ 64) entries →
    AllByRecursion (λ (item : Record). item.key < 2 ^ 64) (map (λ entry. entry.kept) entries) × AreHalves width (map (λ entry. entry.kept) entries)
kept-within width [] le all = (tt, tt)
kept-within width (entry ∷ entries) le all =
    let rest = kept-within width entries le all.1 in
    ((all.0, rest.0), (div-le_of_le-mul width (omega (arith, le, all.0)), rest.1))

-- the replies are short, and so are the numbers of the first group
abbrev AreShort : List Reply → Type 0
AreShort replies = (length (texts replies) ≤ 430) × BeginsShort replies

counts-short : (old new : Machine) (moment : Moment) (at : Located) → IsTable at.plan at.table → at.plan.key_bytes ≤ 8 →
    Counts old moment (map group_reply (aggregate 0 (2 ^ 64 - 1) (records_of all_keys at))) new → AreShort moment.replies
counts-short old new moment at table le counts =
    let entries = at.table.entries in
    let keys = keys-within at.plan entries le table.fit in
    let some = selected all_keys None entries in
    let within = kept-within (2 ^ 64 - 1) some (omega arith) (each-filter (λ (entry : Entry). entry.kept.key < 2 ^ 64) (λ entry. matches all_keys None entry.kept) entries keys) in
    let items = map (λ (entry : Entry). entry.kept) some in
    let fewer : length items ≤ 2 ^ 64 =
    omega (arith, entries-few entries table.ascending keys, length-map some (λ (entry : Entry). entry.kept), length-filter-le (λ (entry : Entry). matches all_keys None entry.kept) entries) in
    let groups = all-groups (2 ^ 64 - 1) items fewer within.0 within.1 in
    (replies-short moment.rose (aggregate 0 (2 ^ 64 - 1) items) moment.replies groups.0 groups.1 counts.2, begins-short moment.rose (aggregate 0 (2 ^ 64 - 1) items) moment.replies groups.0 counts.2)

-- ---- the replies

none-below : (n : ℕ) → nat_lt n 0 ≡ false
none-below n = grind (arith, nat_tests)

key-column : (plan : Plan) → no_column plan (0 ∷ []) ≡ None
key-column plan = ap (λ (b : Bool). cond b (Some 0) None) (none-below (length plan.columns))

one-short : (moment : Moment) (r : Reply) (new : Machine) → Says moment (r ∷ []) new → AreShort (r ∷ []) → AreShort moment.replies
one-short moment r new says short = subst AreShort (sym says.replies_are) short

first-replies : (config : Config) (old : Machine) (moment : Moment) (name : List ℕ) → AreTables config.plans old.tables → ((place : ℕ) (plan : Plan) → slice_get config.plans place ≡ Some plan → plan.key_bytes ≤ 8) →
    moment.command ≡ groups_of name → Step config old moment → AreShort moment.replies
first-replies config old moment name tables fit is step = by_mounted old.mounted (located config old name) refl (subst (λ c. StepOf config old moment c) is step)
  where
    Groups : Located → Type 0
    Groups at = Counts old moment (map group_reply (aggregate 0 (2 ^ 64 - 1) (records_of all_keys at))) old

    by_mounted : (b : Bool) (o : Option Located) → located config old name ≡ o → MatchBool b (MatchOption o (Says moment (reply.NoTable ∷ []) old) (WithColumns old moment (0 ∷ []) Groups)) (Says moment (reply.NotMounted ∷ []) old) → AreShort moment.replies
    by_mounted false o e s = one-short moment reply.NotMounted old s (lit≤ tt, tt)
    by_mounted true None e s = one-short moment reply.NoTable old s (lit≤ tt, tt)
    by_mounted true (Some at) e s =
        let here = located-is config old name at e in
        counts-short old old moment at (tables at.place at.plan at.table here.plan here.table) (fit at.place at.plan here.plan)
        (subst (λ o. MatchOption o (Groups at) (λ column. Says moment (reply.NoColumn column ∷ []) old)) (key-column at.plan) s)

-- ---- its words

digits-word : (n : ℕ) → n < 10 ^ 20 → IsWord (decimal n)
digits-word n lt = decimal_by_steps_wide (λ n ds. IsWord ds) (λ n lt. record { some = omega arith; visible = (omega arith, tt) })
    (λ n ds le h. record { some = omega (arith, h.some, length-append ds ((48 + n % 10) ∷ [])); visible = each-append (λ byte. 32 < byte) ds ((48 + n % 10) ∷ []) h.visible (omega arith, tt) }) n (omega (arith, lt))

word-next : (word rest : List ℕ) → IsWord word → words_in (word ++ 32 ∷ rest) ≡ word ∷ words_in rest
word-next word rest h =
    let some : nat_lt 0 (length word) ≡ true = grind (arith, nat_tests, h.some) in
    let none = All-from_recursion (λ byte. eqb byte 32 ≡ false) word (each-weaker (λ byte. 32 < byte) (λ byte. eqb byte 32 ≡ false) (λ byte lt. grind (arith, nat_tests, lt)) word h.visible) in
    ap (filter (λ word. nat_lt 0 (length word))) (slice_split_at (λ byte. eqb byte 32) word 32 rest none refl)
    ∙ ap (λ t. cond t (word ∷ words_in rest) (words_in rest)) some

group-words : (group count : ℕ) (least : ℕ) (rest : List ℕ) → group < 10 ^ 20 → count < 10 ^ 20 → least < 10 ^ 20 →
    slice_get (words_in (codes "group" ++ 32 ∷ (decimal group ++ 32 ∷ (codes "count" ++ 32 ∷ (decimal count ++ 32 ∷ (codes "least" ++ 32 ∷ (decimal least ++ 32 ∷ rest))))))) 5 ≡ Some (decimal least)
group-words group count least rest g c l =
    let w6 = word-next (decimal least) rest (digits-word least l) in
    let w5 = word-next (codes "least") (decimal least ++ 32 ∷ rest) (record { some = omega arith; visible = (lit≤ tt, (lit≤ tt, (lit≤ tt, (lit≤ tt, (lit≤ tt, tt))))) }) ∙ ap (λ ws. codes "least" ∷ ws) w6 in
    let r4 = codes "least" ++ 32 ∷ (decimal least ++ 32 ∷ rest) in
    let w4 = word-next (decimal count) r4 (digits-word count c) ∙ ap (λ ws. decimal count ∷ ws) w5 in
    let r3 = decimal count ++ 32 ∷ r4 in
    let w3 = word-next (codes "count") r3 (record { some = omega arith; visible = (lit≤ tt, (lit≤ tt, (lit≤ tt, (lit≤ tt, (lit≤ tt, tt))))) }) ∙ ap (λ ws. codes "count" ∷ ws) w4 in
    let r2 = codes "count" ++ 32 ∷ r3 in
    let w2 = word-next (decimal group) r2 (digits-word group g) ∙ ap (λ ws. decimal group ∷ ws) w3 in
    let r1 = decimal group ++ 32 ∷ r2 in
    let w1 = word-next (codes "group") r1 (record { some = omega arith; visible = (lit≤ tt, (lit≤ tt, (lit≤ tt, (lit≤ tt, (lit≤ tt, tt))))) }) ∙ ap (λ ws. codes "group" ∷ ws) w2 in
    ap (λ ws. slice_get ws 5) w1

-- ---- the sixth word, looked for behind one word after another

pub word-behind : (rest behind word : List ℕ) (at : ℕ) (found : Option (List ℕ)) → at < 5 → found ≡ slice_get (words_in rest) (5 - at) → words_in rest ≡ word ∷ words_in behind → found ≡ slice_get (words_in behind) (5 - (at + 1))
word-behind rest behind word at found lt h is =
    let more : 5 - at ≡ suc (5 - (at + 1)) = omega (arith, lt) in
    h ∙ (ap (λ ws. slice_get ws (5 - at)) is ∙ ap (slice_get (word ∷ words_in behind)) more)

pub word-here : (rest word : List ℕ) (others : List (List ℕ)) (at : ℕ) (found : Option (List ℕ)) → 5 ≤ at → found ≡ slice_get (words_in rest) (5 - at) → words_in rest ≡ word ∷ others → found ≡ Some word
word-here rest word others at found le h is =
    let none : 5 - at ≡ 0 = omega (arith, le) in
    h ∙ (ap (λ ws. slice_get ws (5 - at)) is ∙ ap (slice_get (word ∷ others)) none)

pub word-none : (rest : List ℕ) (place : ℕ) (found : Option (List ℕ)) → found ≡ slice_get (words_in rest) place → words_in rest ≡ [] → found ≡ None
word-none rest place found h is = h ∙ ap (λ ws. slice_get ws place) is

-- ---- by how the replies begin

-- the sixth word of a group is its least key
group-is : (group count : ℕ) (least greatest sum mean : ℤ) (said : List Reply) (found : Option (List ℕ)) → group < 10 ^ 20 → count < 10 ^ 20 → IsBelow (10 ^ 20) least →
    found ≡ slice_get (words_in (texts (reply.Group group count least greatest sum mean ∷ said))) 5 → found ≡ Some (signed_decimal least)
group-is group count least greatest sum mean said found g c l is =
    let before = λ (word : List ℕ). codes "group" ++ 32 ∷ (decimal group ++ 32 ∷ (codes "count" ++ 32 ∷ (decimal count ++ 32 ∷ (codes "least" ++ 32 ∷ (word ++ 32 ∷
    (codes "greatest " ++ (signed_decimal greatest ++ (codes " sum " ++ (signed_decimal sum ++ (codes " mean " ++ (signed_decimal mean ++ (10 ∷ texts said)))))))))))) in
    let line : texts (reply.Group group count least greatest sum mean ∷ said) ≡ before (signed_decimal least) = simp append_assoc in
    let same : signed_decimal least ≡ decimal l.0 = ap signed_decimal l.1 in
    is ∙ (ap (λ t. slice_get (words_in t) 5) (line ∙ ap before same) ∙ (group-words group count l.0 _ g c l.2 ∙ ap Some (sym same)))

-- .. where they begin with a group
pub group-first : (said : List Reply) (word : List ℕ) → BeginsShort said → starts_with eqb (texts said) (codes "group ") ≡ true → Some word ≡ slice_get (words_in (texts said)) 5 → first_text said ≡ line_of word
group-first [] word short e is = cc
group-first (reply.Group group count least greatest sum mean ∷ said) word short e is = ap line_of (sym (same (group-is group count least greatest sum mean said (Some word) short.0 short.1 short.2 is)))
  where
    same : Some word ≡ Some (signed_decimal least) → word ≡ signed_decimal least
    same k = cc
group-first (r ∷ said) word short e is = cc

-- it has a least key
pub group-some : (said : List Reply) → BeginsShort said → starts_with eqb (texts said) (codes "group ") ≡ true → None ≡ slice_get (words_in (texts said)) 5 → ⊥
group-some [] short e is = cc
group-some (reply.Group group count least greatest sum mean ∷ said) short e is = none (group-is group count least greatest sum mean said None short.0 short.1 short.2 is)
  where
    none : None ≡ Some (signed_decimal least) → ⊥
    none k = cc
group-some (r ∷ said) short e is = cc

-- ---- what is told

pub first-heard : {E : Type 0} (config : Config) (m : Machine) (name : List ℕ) (stands : Machine → Type 0) (flash flash_now : FlashState) (kept : Kept) (told told_now : Option (List ℕ)) (result : Result (Unit {0}) E) →
    AreTables config.plans m.tables → ((place : ℕ) (plan : Plan) → slice_get config.plans place ≡ Some plan → plan.key_bytes ≤ 8) →
    (e : Executes {E = E} config m (groups_of name) stands flash flash_now (Some []) (Some kept.text) (Ok tt)) → ((said : List Reply) → BeginsShort said → kept.text ≡ texts said → Written told told_now result (first_text said)) →
    TellsFirst {E = E} config m name stands flash flash_now told told_now result
first-heard {E} config m name stands flash flash_now kept told told_now result tables fit e written = record {
  executes = unsaid {E = E} config m (groups_of name) stands flash flash_now (Some []) (Some kept.text) (Ok tt) e;
  written = written e.moment.replies (first-replies config m e.moment name tables fit e.command_is e.step).1 (heard-all kept e.moment.replies e.told_all);
}

-- a sink that keeps the groups doesn't fail
pub first-unheard : {T : Type 0} (config : Config) (m : Machine) (name : List ℕ) (stands : Machine → Type 0) (flash flash_now : FlashState) (kept : Kept) (error : SinkFailed) →
    AreTables config.plans m.tables → ((place : ℕ) (plan : Plan) → slice_get config.plans place ≡ Some plan → plan.key_bytes ≤ 8) →
    Executes {E = SinkFailed} config m (groups_of name) stands flash flash_now (Some []) (Some kept.text) (Err error) → IsFullOnFault kept → HasCause {T = T} 0 kept.faults (Err error) → ⊥
first-unheard {T} config m name stands flash flash_now kept error tables fit e full cause =
    omega (arith, (first-replies config m e.moment name tables fit e.command_is e.step).0, heard-over {T = T} kept e.moment.replies error full cause e.told_front)
