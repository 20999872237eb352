-- Lines of an input that are taken one after another.
use Rattle.std.proofs.Common.{◌≡◌, ℕ, ◌+◌, ◌^◌, ◌<◌, ◌≤◌, ◌⊎◌, inl, inr, Bool, true, false, Option, Some, Result, Ok, Err, List, [], ◌∷◌, ◌++◌, length, refl, sym, ◌∙◌, ap, subst, append_assoc, append-nil, arith, lt-ltb}
use Rattle.fl_model.proofs.Lists.{each-push}
use Rattle.fl_csv.specs.Lines.{IsHeader}
use Rattle.fl_image.specs.declared.status.ToolStatus.{ToolStatus}
use Rattle.fl_image.specs.declared.status.ToolStatus.TheVariants.{Done, InputRead, InputLong, NoMemory, BadInput}
use Rattle.fl_lines.specs.Given.{Given}
use Rattle.fl_lines.specs.Stream.{LinesState, Advances, Gives, TakesAhead}
use Rattle.fl_lines.specs.Taken.{HasTaken, TakesFew}
use Rattle.fl_lines.specs.Texts.{most_bytes, lines_read, lines_within}
use Rattle.fl_lines.specs.declared.lines.LinesFault.{LinesFault}
use Rattle.fl_lines.specs.declared.lines.LinesFault.TheVariants.{Failed, Long}
use Rattle.fl_lines.proofs.LinesInTurn.{IsTooLong, given-none, given-line, given-last, given-all, given-few, given-most, given-over, given-taken, given-too_long, given-within}
use Rattle.fl_words.specs.Grammar.{without_return}
use Rattle.fl_import.specs.Lines.{IsHeaded, Takes, IsBad}
use Rattle.fl_import.specs.Taking.{NextOf, TakesSoFar, TakesThese}

abbrev IsShort : List ℕ → Type 0
IsShort line = length line ≤ 4096

-- the line of the names is the first one
headed-more : (columns : ℕ) (blobs : Bool) (taken : List (List ℕ)) (line : List ℕ) → IsHeaded columns blobs taken → ((taken ≡ []) → IsHeader columns blobs (without_return line)) → IsHeaded columns blobs (taken ++ line ∷ [])
headed-more columns blobs [] line h names = names refl
headed-more columns blobs (first ∷ taken) line h names = h

bad-long : (columns : ℕ) (blobs : Bool) (taken : List (List ℕ)) (line : List ℕ) (others : List (List ℕ)) → 4096 < length line → IsBad columns blobs taken (line ∷ others)
bad-long columns blobs [] line others long = inl long
bad-long columns blobs (first ∷ taken) line others long = long

-- ---- the lines that a stream gives

-- a line of a text was given, which may be too long
given-next : (text : List ℕ) (taken : List (List ℕ)) (old new : LinesState) (rest left : List ℕ) → Given most_bytes text taken old.closed old.most rest → Gives old rest (Ok true) new left →
    Given most_bytes text (taken ++ new.line ∷ []) new.closed new.most (new.ahead ++ left) ⊎ (IsTooLong most_bytes text taken × (4096 < length new.line))
given-next text taken old new rest left g (inl w) =
    let h = given-line most_bytes text taken old.most rest new.line (new.ahead ++ left) (subst (λ b. Given most_bytes text taken b old.most rest) w.open_before g) w.split w.one w.fits in
    inl (subst (λ b. Given most_bytes text (taken ++ new.line ∷ []) b new.most (new.ahead ++ left)) (sym w.open_now)
    (subst (λ m. Given most_bytes text (taken ++ new.line ∷ []) false m (new.ahead ++ left)) (sym w.most) h))
given-next text taken old new rest left g (inr (inl w)) =
    let h = given-last most_bytes text taken old.most new.most rest new.line (new.ahead ++ left) (subst (λ b. Given most_bytes text taken b old.most rest) w.open_before g) w.split w.nothing w.one w.some w.fits in
    inl (subst (λ b. Given most_bytes text (taken ++ new.line ∷ []) b new.most (new.ahead ++ left)) (sym w.closed_now) h)
given-next text taken old new rest left g (inr (inr w)) =
    inr (given-too_long most_bytes text taken old.closed old.most rest new.line w.others g w.split w.one w.long w.fits, w.long)

-- .. and is the next one
next-split : (text : List ℕ) (taken : List (List ℕ)) (line : List ℕ) (closed : Bool) (most : ℕ) (rest : List ℕ) → Given most_bytes text (taken ++ line ∷ []) closed most rest → lines_read text ≡ taken ++ line ∷ lines_within most rest
next-split text taken line closed most rest g = g.lines ∙ append_assoc taken (line ∷ []) (lines_within most rest)

pub taken-none : (columns : ℕ) (blobs : Bool) (text : List ℕ) (state : LinesState) (left : Option (List ℕ)) → state ≡ record { line = []; ahead = []; most = 2 ^ 24; closed = false } → left ≡ Some text → TakesSoFar columns blobs text [] state left
taken-none columns blobs text state left new is =
    subst (λ (s : LinesState). TakesSoFar columns blobs text [] s left) (sym new)
    (record { rest = text; rest_is = is; given = given-none most_bytes text false (λ c. cc); short = tt; headed = tt })

-- ---- after some lines

module _ (columns : ℕ) (blobs : Bool) (text : List ℕ) (taken : List (List ℕ)) (old new : LinesState) (left left_now : Option (List ℕ)) (faults faults_now : ℕ) (h : TakesSoFar columns blobs text taken old left) where
  abbrev Given? : Result Bool LinesFault → Type 0
  Given? given = Advances old left faults given new left_now faults_now

  takes : (others : List (List ℕ)) → lines_read text ≡ taken ++ others → Takes columns blobs text taken others
  takes others split = record { split = split; short = h.short; headed = h.headed }

  abbrev Goes : Result Bool LinesFault → Type 0
  Goes given = (l : List ℕ) × (left_now ≡ Some l) × Gives old (old.ahead ++ h.rest) given new l × TakesAhead old (old.ahead ++ h.rest) given l

  goes : (given : Result Bool LinesFault) → Given? given → Goes given
  goes given advances = advances.gives h.rest h.rest_is (λ closed. h.given.ended closed)

  -- at most 4,097 bytes were taken from the first byte of the next one on, and at most one more than are read
  few-next : (given : Result Bool LinesFault) → Given? given → TakesFew text taken left_now
  few-next given advances =
      let g = goes given advances in
      subst (λ (o : Option (List ℕ)). TakesFew text taken o) (sym g.1) (by-given given g.0 g.2 g.3)
    where
      by-given : (given : Result Bool LinesFault) (l : List ℕ) → Gives old (old.ahead ++ h.rest) given new l → TakesAhead old (old.ahead ++ h.rest) given l → TakesFew text taken (Some l)
      by-given (Ok true) l gives ahead = given-few most_bytes text taken old h.rest l h.given ahead
      by-given (Ok false) l gives ahead = given-within most_bytes text taken old.closed old.most (old.ahead ++ h.rest) [] l h.given (gives ∙ sym ahead) (omega arith) (omega arith)
      by-given (Err Failed) l gives ahead = given-within most_bytes text taken old.closed old.most (old.ahead ++ h.rest) new.ahead l h.given gives.split (omega (arith, gives.short)) (omega (arith, gives.fits))
      by-given (Err Long) l gives ahead = given-within most_bytes text taken old.closed old.most (old.ahead ++ h.rest) ahead.0 l h.given ahead.1 (omega (arith, ahead.2, gives.2, gives.1.short)) (omega (arith, ahead.2))

  -- the next one is taken
  pub taken-next : Given? (Ok true) → length new.line ≤ 4096 → (taken ≡ [] → IsHeader columns blobs (without_return new.line)) → TakesSoFar columns blobs text (taken ++ new.line ∷ []) new left_now
  taken-next advances short names =
      let g = goes (Ok true) advances in
      by-line g.0 g.1 (given-next text taken old new (old.ahead ++ h.rest) g.0 h.given g.2)
    where
      by-line : (l : List ℕ) → left_now ≡ Some l →
          Given most_bytes text (taken ++ new.line ∷ []) new.closed new.most (new.ahead ++ l) ⊎ (IsTooLong most_bytes text taken × (4096 < length new.line)) → TakesSoFar columns blobs text (taken ++ new.line ∷ []) new left_now
      by-line l is (inl g) = record { rest = l; rest_is = is; given = g; short = each-push IsShort taken new.line h.short short; headed = headed-more columns blobs taken new.line h.headed names }
      by-line l is (inr w) = absurd (omega (arith, w.1, short))

  -- there is none
  pub stops-done : Given? (Ok false) → 1 ≤ length taken → TakesThese columns blobs text taken left_now Done
  stops-done advances some =
      let g = goes (Ok false) advances in
      let all = given-all most_bytes text taken old.closed old.most (old.ahead ++ h.rest) h.given g.2 in
      record { left = []; takes = takes [] (all.0 ∙ sym (append-nil taken)); few = few-next (Ok false) advances; stops = (some, refl, all.1, g.1 ∙ ap Some g.3) }

  pub stops-none : Given? (Ok false) → (number : ℕ) → number ≡ length taken + 1 → taken ≡ [] → TakesThese columns blobs text taken left_now (BadInput number)
  stops-none advances number is none =
      let all = given-all most_bytes text taken old.closed old.most (old.ahead ++ h.rest) h.given (goes (Ok false) advances).2 in
      record { left = []; takes = takes [] (all.0 ∙ sym (append-nil taken)); few = few-next (Ok false) advances; stops = (is, subst (λ (ls : List (List ℕ)). IsBad columns blobs ls []) (sym none) tt) }

  -- it is too long
  pub stops-long : Given? (Ok true) → 4096 < length new.line → (number : ℕ) → number ≡ length taken + 1 → TakesThese columns blobs text taken left_now (BadInput number)
  stops-long advances long number is =
      let g = goes (Ok true) advances in
      by-line g.0 (given-next text taken old new (old.ahead ++ h.rest) g.0 h.given g.2)
    where
      by-line : (l : List ℕ) →
          Given most_bytes text (taken ++ new.line ∷ []) new.closed new.most (new.ahead ++ l) ⊎ (IsTooLong most_bytes text taken × (4096 < length new.line)) → TakesThese columns blobs text taken left_now (BadInput number)
      by-line l (inl g) =
          let others = lines_within new.most (new.ahead ++ l) in
          record { left = new.line ∷ others; takes = takes (new.line ∷ others) (next-split text taken new.line new.closed new.most (new.ahead ++ l) g); few = few-next (Ok true) advances; stops = (is, bad-long columns blobs taken new.line others long) }
      by-line l (inr w) = record { left = w.0.line ∷ w.0.others; takes = takes (w.0.line ∷ w.0.others) w.0.lines; few = few-next (Ok true) advances; stops = (is, bad-long columns blobs taken w.0.line w.0.others w.0.long) }

  -- it is given, and isn't taken
  pub record Shows (line : List ℕ) : Type 0 where
    pub others : List (List ℕ)
    pub takes_not : Takes columns blobs text taken (line ∷ others)
    pub few : TakesFew text taken left_now

  pub shows-next : Given? (Ok true) → length new.line ≤ 4096 → Shows new.line
  shows-next advances short =
      let g = goes (Ok true) advances in
      by-line g.0 (given-next text taken old new (old.ahead ++ h.rest) g.0 h.given g.2)
    where
      by-line : (l : List ℕ) →
          Given most_bytes text (taken ++ new.line ∷ []) new.closed new.most (new.ahead ++ l) ⊎ (IsTooLong most_bytes text taken × (4096 < length new.line)) → Shows new.line
      by-line l (inl g) = record { others = lines_within new.most (new.ahead ++ l); takes_not = takes (new.line ∷ lines_within new.most (new.ahead ++ l)) (next-split text taken new.line new.closed new.most (new.ahead ++ l) g); few = few-next (Ok true) advances }
      by-line l (inr w) = absurd (omega (arith, w.1, short))

  -- the source failed, or has more bytes than are read
  pub stops-read : Given? (Err Failed) → TakesThese columns blobs text taken left_now InputRead
  stops-read advances =
      let g = goes (Err Failed) advances in
      let part = g.2 in
      let w = given-taken most_bytes text taken old.most (old.ahead ++ h.rest) new.ahead g.0 (subst (λ b. Given most_bytes text taken b old.most (old.ahead ++ h.rest)) part.open_before h.given) part.split part.one part.fits part.short in
      record {
        left = lines_within old.most (old.ahead ++ h.rest);
        takes = takes (lines_within old.most (old.ahead ++ h.rest)) h.given.lines;
        few = few-next (Err Failed) advances;
        stops = record { count = w.taken; within = w.within; few = w.few; short = w.short; rest_is = g.1 ∙ ap Some (sym w.left_is); whole = sym w.whole };
      }

  pub stops-more : Given? (Err Long) → TakesThese columns blobs text taken left_now InputLong
  stops-more advances =
      let g = goes (Err Long) advances in
      let part = g.2.1 in
      let all = given-most most_bytes text taken old.most (old.ahead ++ h.rest) new.ahead g.2.0 (subst (λ b. Given most_bytes text taken b old.most (old.ahead ++ h.rest)) part.open_before h.given) part.split part.one g.2.2 part.short g.2.3 in
      record {
        left = [];
        takes = takes [] (all.0 ∙ sym (append-nil taken));
        few = few-next (Err Long) advances;
        stops = (
          refl,
          lt-ltb most_bytes (length text) all.1,
          subst (λ (o : Option (List ℕ)). HasTaken text (most_bytes + 1) o) (sym g.1) (given-over most_bytes text taken old h.rest g.0 h.given part.open_before g.3),
        );
      }

  -- .. by the status that tells it
  pub stops-next : (number : ℕ) → number ≡ length taken + 1 → (given : Result Bool LinesFault) (status : ToolStatus) → Given? given → NextOf given new.line number (Err status) → TakesThese columns blobs text taken left_now status
  stops-next number is given InputRead advances next = stops-read (subst Given? next advances)
  stops-next number is given InputLong advances next = stops-more (subst Given? next advances)
  stops-next number is given (BadInput n) advances next = stops-long (subst Given? next.0 advances) next.2 n (next.1 ∙ is)
  stops-next number is given status advances next = absurd next

-- the first line isn't that of the names
pub stops-other : (columns : ℕ) (blobs : Bool) (text : List ℕ) (old new : LinesState) (left left_now : Option (List ℕ)) (faults faults_now : ℕ) → TakesSoFar columns blobs text [] old left → Advances old left faults (Ok true) new left_now faults_now →
    length new.line ≤ 4096 → (IsHeader columns blobs (without_return new.line) → ⊥) → TakesThese columns blobs text [] left_now (BadInput 1)
stops-other columns blobs text old new left left_now faults faults_now h advances short other =
    let s = shows-next columns blobs text [] old new left left_now faults faults_now h advances short in
    record { left = new.line ∷ s.others; takes = s.takes_not; few = s.few; stops = (refl, inr other) }

-- .. or there is no memory to read it
pub stops-unread : (columns : ℕ) (blobs : Bool) (text : List ℕ) (old new : LinesState) (left left_now : Option (List ℕ)) (faults faults_now : ℕ) → TakesSoFar columns blobs text [] old left → Advances old left faults (Ok true) new left_now faults_now →
    length new.line ≤ 4096 → TakesThese columns blobs text [] left_now NoMemory
stops-unread columns blobs text old new left left_now faults faults_now h advances short =
    let s = shows-next columns blobs text [] old new left left_now faults faults_now h advances short in
    record { left = new.line ∷ s.others; takes = s.takes_not; few = s.few; stops = omega arith }
