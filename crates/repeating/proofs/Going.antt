-- A loop of calls, after so many turns: what holds at first, and after one call more.
use Prim.Native.Nat.{ℕ, ◌+◌}
use mathlib.Core.List.{List}
use mathlib.Core.Path.{◌≡◌, refl, ◌∙◌, ap}
use lib.ListN.{length, set, length-set}
use Rattle.repeating.specs.Calls.{after, answered, after_none, after_more, answered_none, answered_more}

pub record Going {A : Type 0} (step : ℕ → A → A) (answer : ℕ → A → ℕ) (a q : A) (l m : List ℕ) (i : ℕ) : Type 0 where
  pub size : length m ≡ length l
  pub state : q ≡ after step a i
  pub answers : m ≡ answered step answer a l i

pub going_none : {A : Type 0} (step : ℕ → A → A) (answer : ℕ → A → ℕ) (a : A) (l : List ℕ) → Going step answer a a l l 0
going_none step answer a l = record { size = refl; state = after_none step a; answers = answered_none step answer a l }

pub going_more : {A : Type 0} (step : ℕ → A → A) (answer : ℕ → A → ℕ) (a q x : A) (l m : List ℕ) (i y : ℕ) → Going step answer a q l m i
    → x ≡ step i q → y ≡ answer i q → Going step answer a x l (set m i y) (i + 1)
going_more step answer a q x l m i y g e f =
    record {
      size = length-set m i y ∙ g.size;
      state = after_more step a q x i g.state e;
      answers = answered_more step answer a q l m i y g.state g.answers f;
    }

-- The loop ends after n turns.
pub going_state : {A : Type 0} {step : ℕ → A → A} {answer : ℕ → A → ℕ} {a q : A} {l m : List ℕ} {i : ℕ} (n : ℕ) → Going step answer a q l m i → i ≡ n → q ≡ after step a n
going_state {step = step} {a = a} n g e = g.state ∙ ap (after step a) e

pub going_answers : {A : Type 0} {step : ℕ → A → A} {answer : ℕ → A → ℕ} {a q : A} {l m : List ℕ} {i : ℕ} (n : ℕ) → Going step answer a q l m i → i ≡ n → m ≡ answered step answer a l n
going_answers {step = step} {answer = answer} {a = a} {l = l} n g e = g.answers ∙ ap (answered step answer a l) e
