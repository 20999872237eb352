use Rattle.fl_index.proofs.index.BitmapIndex.listed.Goals as goal

pub is_listing-requires : goal.is_listing-requires
is_listing-requires c = record { size = c.requires.size }

pub found_in-requires-clause-some : goal.found_in-requires-clause-some
found_in-requires-clause-some c = c.form.ensures.some

pub found_in-requires-clause-few : goal.found_in-requires-clause-few
found_in-requires-clause-few c = c.form.ensures.few

pub returns-in-Ok-false-clause-found : goal.returns-in-Ok-false-clause-found
returns-in-Ok-false-clause-found c = λ number at. c.in-Ok-false.ensures.none c.in-Ok-false.field-0-test

pub returns-in-Err-clause-found : goal.returns-in-Err-clause-found
returns-in-Err-clause-found c = λ number at. c.in-Err.ensures.bad
