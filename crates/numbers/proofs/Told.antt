-- What the library's answers tell, in the words of the code: x is the answer that the code has, y the definition's.
use mathlib.Core.Path.{◌≡◌, refl, ap, subst⁻¹}
use Prim.Native.Nat.{ℕ}
use mathlib.Core.List.{List, ◌∷◌}
use Rattle.format.specs.Answers as Answers
use Answers.{fields}
use Rattle.std.specs.Prelude.{Result, Ok, Err}
use Rattle.format.specs.Refusals.{Place}
use Rattle.events.specs.declared.Counts.{Counts}
use Rattle.walk.specs.State.{checked_answer}
use Rattle.walk.specs.Listing.{listed_answer}
use Rattle.entry.specs.declared.Change.{Change}
use Rattle.entry.specs.declared.Cell.{Cell}
use Rattle.entry.specs.Answer.{changed_answer, valued_answer}
use Rattle.format.specs.declared.Part.{Part}
use Rattle.cell.specs.Cell.{cell_numbers}
use Rattle.cell.proofs.Putting.{numbers_are}
use Rattle.numbers.specs.Answer.{checked_number, checked_place, checked_events, checked_changes, counted, changed_number, changed_place, entry_after, table_after, columns_after, valued_number, valued_place, cell_after, number_of, place_of, cell_of}

-- ---- Check and Listing

-- what is returned and written for an answer is what the definition's asks
abbrev pub CheckedTold : Result Counts Place → Answers.Checked → Type 0
CheckedTold (Err f) y = (f.number ≡ checked_number y) × (f.place ≡ checked_place y) × (0 ≡ checked_events y) × (0 ≡ checked_changes y)
CheckedTold (Ok c) y = (0 ≡ checked_number y) × (0 ≡ checked_place y) × (c.events ≡ checked_events y) × (c.changes ≡ checked_changes y)

checked_is : (y : Answers.Checked) → CheckedTold (checked_answer y) y
unfolding checked_answer checked_number checked_place checked_events checked_changes
checked_is (Answers.Checked.refused n p) = (refl, refl, refl, refl)
checked_is (Answers.Checked.accepted e c) = (refl, refl, refl, refl)

pub checked_told : (x : Result Counts Place) (y : Answers.Checked) → x ≡ checked_answer y → CheckedTold x y
checked_told x y i = subst⁻¹ (λ (z : Result Counts Place). CheckedTold z y) i (checked_is y)

pub listed-is : (y : Answers.Listed) → listed_answer y ≡ checked_answer (counted y)
unfolding listed_answer checked_answer counted
listed-is (Answers.Listed.refused n p) = refl
listed-is (Answers.Listed.listed e c xs) = refl

-- ---- Change

abbrev pub ChangedTold : Result Change Place → Answers.Changed → Type 0
ChangedTold (Err f) y = (f.number ≡ changed_number y) × (f.place ≡ changed_place y)
    × ((old : List ℕ) → old ≡ entry_after old y) × ((old : ℕ) → old ≡ table_after old y) × ((old : ℕ) → old ≡ columns_after old y)
ChangedTold (Ok r) y = (0 ≡ changed_number y) × (0 ≡ changed_place y)
    × ((old : List ℕ) → fields r.entry ≡ entry_after old y) × ((old : ℕ) → r.table ≡ table_after old y) × ((old : ℕ) → r.columns ≡ columns_after old y)

changed_is : (y : Answers.Changed) → ChangedTold (changed_answer y) y
unfolding changed_answer changed_number changed_place entry_after table_after columns_after
changed_is (Answers.Changed.refused n p) = (refl, refl, (λ old. refl), (λ old. refl), (λ old. refl))
changed_is (Answers.Changed.change e id columns database table) = (refl, refl, (λ old. refl), (λ old. refl), (λ old. refl))

pub changed_told : (x : Result Change Place) (y : Answers.Changed) → x ≡ changed_answer y → ChangedTold x y
changed_told x y i = subst⁻¹ (λ (z : Result Change Place). ChangedTold z y) i (changed_is y)

-- ---- Value

valued_is : (p : Part) (y : Answers.Valued)
    → (number_of (valued_answer p y) ≡ valued_number y) × (place_of (valued_answer p y) ≡ valued_place y) × ((old : List ℕ) → cell_of old (valued_answer p y) ≡ cell_after old p y)
unfolding valued_answer valued_number valued_place cell_after cell_numbers
valued_is p (Answers.Valued.refused n q) = (refl, refl, (λ old. refl))
valued_is p (Answers.Valued.cell Answers.Cell.absent) = (refl, refl, (λ old. refl))
valued_is p (Answers.Valued.cell Answers.Cell.null) = (refl, refl, (λ old. refl))
valued_is p (Answers.Valued.cell (Answers.Cell.stored t v)) = (refl, refl, (λ old. ap (λ (ns : List ℕ). t ∷ ns) (numbers_are p v)))

-- what is returned and written for the code's answer is what the definition's asks
pub valued_told : (x : Result Cell Place) (p : Part) (y : Answers.Valued) → x ≡ valued_answer p y
    → (number_of x ≡ valued_number y) × (place_of x ≡ valued_place y) × ((old : List ℕ) → cell_of old x ≡ cell_after old p y)
valued_told x p y i =
    subst⁻¹ (λ (z : Result Cell Place). (number_of z ≡ valued_number y) × (place_of z ≡ valued_place y) × ((old : List ℕ) → cell_of old z ≡ cell_after old p y)) i (valued_is p y)
