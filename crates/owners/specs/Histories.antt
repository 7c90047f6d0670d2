-- A history of the box: what happens, in order, and what an owner T has after each of T's own calls. A call of T's is lent the stores that T keeps for its number, as T's
-- last call on it left them; an opening of T's comes with new stores for the number that is given.
use Rattle.std.specs.Prelude.{ℕ, Bool, List, [], ◌∷◌, ◌≡◌, get_or, set, eqb}
use Rattle.session.specs.declared.Session.{Session}
use Rattle.session.specs.Place.{place_of}
use Rattle.session.specs.Call.{Stores, no_stores, lent_of, kept_of, Asked, lends_for, Made}
use Rattle.session.specs.Open.{Opening}
use Rattle.session.specs.List.{outcome_of, list_of, opening_at, open_list_of}
use Rattle.owners.specs.View.{Numbered, view}
use Rattle.owners.specs.Seeing.{Reply, reply_of}

-- the list, and the stores that T keeps, by place
pub record Box : Type 0 where
  pub list : List Session
  pub stores : List Stores

-- what happens: a call of T's; an opening of T's; and any call, with any store, and any opening of others
pub data Happens : Type 0 where
  mine : (number : ℕ) (q : Asked) → Happens
  opening : (firstdata firstchannel timeout : ℕ) (given : Stores) → Happens
  other : (token number : ℕ) (store : List ℕ) (q : Asked) → Happens
  other_opening : (token firstdata firstchannel timeout : ℕ) → Happens

-- the others' tokens are not T
unfoldable pub Foreign : ℕ → List Happens → Type 0
Foreign T [] = Unit
Foreign T (mine number q ∷ hs) = Foreign T hs
Foreign T (opening a b t given ∷ hs) = Foreign T hs
Foreign T (other token number store q ∷ hs) = (token ≡ T → ⊥) × Foreign T hs
Foreign T (other_opening token a b t ∷ hs) = (token ≡ T → ⊥) × Foreign T hs

-- T's own, in order
abbrev pub mine_of : List Happens → List Happens
mine_of [] = []
mine_of (mine number q ∷ hs) = mine number q ∷ mine_of hs
mine_of (opening a b t given ∷ hs) = opening a b t given ∷ mine_of hs
mine_of (other token number store q ∷ hs) = mine_of hs
mine_of (other_opening token a b t ∷ hs) = mine_of hs

-- ---- one step

abbrev pub stores_at : List Stores → ℕ → Stores
stores_at st number = get_or st (place_of number) no_stores

-- a call of T's: what becomes of it, and the list and the stores afterwards
abbrev pub call_by : ℕ → List Session → List Stores → ℕ → Asked → Made
call_by T l st number q = outcome_of l number T (lent_of (lends_for q) (stores_at st number)) q

abbrev pub call_list : ℕ → List Session → List Stores → ℕ → Asked → List Session
call_list T l st number q = list_of l number T (lent_of (lends_for q) (stores_at st number)) q

abbrev pub call_stores : List Stores → ℕ → Asked → List ℕ → List Stores
call_stores st number q left = set st (place_of number) (kept_of (lends_for q) (stores_at st number) left)

-- an opening of T's: the stores afterwards; refused, as they were
abbrev pub open_stores : List Stores → ℕ → Stores → List Stores
open_stores st number given = set st (place_of number) given

abbrev pub after : ℕ → Box → Happens → Box
after T w (mine number q) =
    record { list = call_list T w.list w.stores number q; stores = call_stores w.stores number q (call_by T w.list w.stores number q).store }
after T w (opening a b t given) =
    record { list = open_list_of w.list T a b t; stores = open_stores w.stores (opening_at w.list T a b t).number given }
after T w (other token number store q) = record { list = list_of w.list number token store q; stores = w.stores }
after T w (other_opening token a b t) = record { list = open_list_of w.list token a b t; stores = w.stores }

-- ---- what T has

-- after one of T's calls: the reply, the number given, view T, and T's stores
pub record Has : Type 0 where
  pub reply : Reply
  pub number : ℕ
  pub view : List Numbered
  pub stores : List Stores

-- an opening's reply: a number and no bytes
abbrev pub reply_to : Opening → Reply
reply_to o = record { answer = o.answer; bytes = []; lost = 0; store = [] }

-- after each of T's calls, in order
unfoldable pub has : ℕ → Box → List Happens → List Has
has T w [] = []
has T w (mine number q ∷ hs) =
    record {
      reply = reply_of (call_by T w.list w.stores number q);
      number = 0;
      view = view T (after T w (mine number q)).list;
      stores = (after T w (mine number q)).stores;
    }
    ∷ has T (after T w (mine number q)) hs
has T w (opening a b t given ∷ hs) =
    record {
      reply = reply_to (opening_at w.list T a b t);
      number = (opening_at w.list T a b t).number;
      view = view T (after T w (opening a b t given)).list;
      stores = (after T w (opening a b t given)).stores;
    }
    ∷ has T (after T w (opening a b t given)) hs
has T w (other token number store q ∷ hs) = has T (after T w (other token number store q)) hs
has T w (other_opening token a b t ∷ hs) = has T (after T w (other_opening token a b t)) hs

-- ---- what depends on all, at each opening of T's: is it 25, and the number given

pub record Grant : Type 0 where
  pub full : Bool
  pub number : ℕ

abbrev pub grant_of : Opening → Grant
grant_of o = record { full = eqb o.answer 25; number = o.number }

unfoldable pub grants : ℕ → Box → List Happens → List Grant
grants T w [] = []
grants T w (mine number q ∷ hs) = grants T (after T w (mine number q)) hs
grants T w (opening a b t given ∷ hs) = grant_of (opening_at w.list T a b t) ∷ grants T (after T w (opening a b t given)) hs
grants T w (other token number store q ∷ hs) = grants T (after T w (other token number store q)) hs
grants T w (other_opening token a b t ∷ hs) = grants T (after T w (other_opening token a b t)) hs
