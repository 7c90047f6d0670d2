-- Isolation over histories, `histories`: two runs from lists of forty with equal view T, any calls of others anywhere between, T's calls the same in both and in order, each
-- lent the stores as T's last call on that number left them. If at each opening of T's the runs agree on 25 and on the number given, then after each of T's calls the
-- replies, the numbers, view T and T's stores are equal.
-- It goes by one run at a time, `has_alone`: what T has in a run is what T has alone, on the list that T sees, where what each opening is granted is told from outside.
use Prim.Native.Nat.{ℕ, ◌+◌, ◌-◌, ◌<◌}
use Rattle.std.specs.Prelude.{Bool, cond, ◌≡◌, length, get_or, leb}
use Rattle.std.proofs.Math.Bool.{true, false}
use mathlib.Core.List.{List, [], ◌∷◌}
use Rattle.std.proofs.Math.Path.{refl, sym, ap}
use Rattle.std.proofs.Common.{◌∙◌, subst, length-set, arith, eqb-true, leb-true, leb-false}
use Rattle.std.proofs.Math.ListN.{set}
use Rattle.std.proofs.Math.Dec.{eqb}
use Rattle.std.proofs.lemmas.Bool.{eqb-false}
use Rattle.endpoint.specs.Open.{opened_of}
use Rattle.session.specs.declared.Session.{Session}
use Rattle.session.specs.Place.{blank, places, place_of}
use Rattle.session.specs.Call.{Stores, lent_of, lends_for}
use Rattle.session.specs.Open.{Opening, opening_of, refused_opening, opened_for}
use Rattle.session.specs.List.{lowest_of, opening_at, open_list_of, outcome_of}
use Rattle.session.specs.Shapes.{Granted, granted_by}
use Rattle.owners.specs.View.{Numbered, view, seen, hidden, hidden_get, hidden_set, seen_again, view_hidden, view_sees}
use Rattle.owners.specs.Seeing.{Reply, reply_of, set_same, opening_full, opening_refused, opening_done}
use Rattle.owners.specs.OwnersAreIsolated.{frame_sees, frame_open_sees, answers_alone, leaves_alone}
use Rattle.owners.specs.Histories.{Box, Happens, mine, opening, other, other_opening, Foreign, mine_of, stores_at, call_by, call_list, call_stores, open_stores, after, Has, reply_to, has, Grant, grant_of, grants}

-- ---- T alone

abbrev place_by : Grant → ℕ
place_by g = cond g.full places (g.number - 1)

abbrev opening_alone : ℕ → Grant → Session → ℕ → ℕ → ℕ → Opening
opening_alone T g s a b t = opening_of places (place_by g) T s a b t

abbrev list_alone : ℕ → List Session → Grant → ℕ → ℕ → ℕ → List Session
list_alone T H g a b t = set H (place_by g) (seen T (opening_alone T g (get_or H (place_by g) blank) a b t).session)

unfoldable pub alone : ℕ → List Session → List Stores → List Happens → List Grant → List Has
alone T H st [] gs = []
alone T H st (mine number q ∷ hs) gs =
    record {
      reply = reply_of (call_by T H st number q);
      number = 0;
      view = view T (hidden T (call_list T H st number q));
      stores = call_stores st number q (call_by T H st number q).store;
    }
    ∷ alone T (hidden T (call_list T H st number q)) (call_stores st number q (call_by T H st number q).store) hs gs
alone T H st (opening a b t given ∷ hs) [] = []
alone T H st (opening a b t given ∷ hs) (g ∷ gs) =
    record {
      reply = reply_to (opening_alone T g blank a b t);
      number = (opening_alone T g blank a b t).number;
      view = view T (list_alone T H g a b t);
      stores = open_stores st (opening_alone T g blank a b t).number given;
    }
    ∷ alone T (list_alone T H g a b t) (open_stores st (opening_alone T g blank a b t).number given) hs gs
alone T H st (other token number store q ∷ hs) gs = alone T H st hs gs
alone T H st (other_opening token a b t ∷ hs) gs = alone T H st hs gs

has_same : (o p : Opening) {v u : List Numbered} {s r : List Stores} {xs ys : List Has} → granted_by o ≡ granted_by p → v ≡ u → s ≡ r → xs ≡ ys
    → ◌≡◌ {A = List Has} (record { reply = reply_to o; number = o.number; view = v; stores = s } ∷ xs) (record { reply = reply_to p; number = p.number; view = u; stores = r } ∷ ys)
has_same o p e f g k =
    let a : o.answer ≡ p.answer = ap (λ (x : Granted). x.answer) e in let n : o.number ≡ p.number = ap (λ (x : Granted). x.number) e in rw (a, n, f, g, k) refl

module _ (T : ℕ) (h : T ≡ 0 → ⊥) where
  -- what T sees at a place, put back
  unchanged : (l : List Session) (i : ℕ) → set (hidden T l) i (seen T (get_or (hidden T l) i blank)) ≡ hidden T l
  unchanged l i =
      ap (λ (s : Session). set (hidden T l) i s) (ap (seen T) (hidden_get T l i) ∙ seen_again T h (get_or l i blank) ∙ sym (hidden_get T l i)) ∙ set_same (hidden T l) i blank

  -- an opening of T's is the one that T has alone, with what it was granted
  Alone : List Session → ℕ → ℕ → ℕ → Opening → Type 0
  Alone l a b t o =
      (granted_by o ≡ granted_by (opening_alone T (grant_of o) blank a b t)) × (hidden T (set l (lowest_of l) o.session) ≡ list_alone T (hidden T l) (grant_of o) a b t)

  module _ (l : List Session) (a b t : ℕ) where
    abbrev old : Session
    old = get_or l (lowest_of l) blank

    full_alone : Alone l a b t (refused_opening 25 old)
    unfolding Alone
    full_alone = (
      sym (ap granted_by (opening_full T h places blank a b t (omega arith))),
      ap (hidden T) (set_same l (lowest_of l) blank) ∙ sym (unchanged l places)
          ∙ sym (ap (λ (o : Opening). set (hidden T l) places (seen T o.session)) (opening_full T h places (get_or (hidden T l) places blank) a b t (omega arith))),
    )

    refused_alone : ((opened_of 32 a b t).answer ≡ 0 → ⊥) → Alone l a b t (refused_opening (opened_of 32 a b t).answer old)
    unfolding Alone
    refused_alone z = go (eqb (opened_of 32 a b t).answer 25) refl
      where
        go : (f : Bool) → eqb (opened_of 32 a b t).answer 25 ≡ f
            → (granted_by (refused_opening (opened_of 32 a b t).answer old) ≡ granted_by (opening_of places (cond f places (0 - 1)) T blank a b t))
            × (hidden T (set l (lowest_of l) old) ≡ set (hidden T l) (cond f places (0 - 1)) (seen T (opening_of places (cond f places (0 - 1)) T (get_or (hidden T l) (cond f places (0 - 1)) blank) a b t).session))
        go true e =
            (ap (λ (n : ℕ). granted_by (refused_opening n old)) (eqb-true (opened_of 32 a b t).answer 25 e) ∙ full_alone.0, full_alone.1)
        go false e = (
          sym (ap granted_by (opening_refused T h 0 blank a b t (omega arith) z)),
          ap (hidden T) (set_same l (lowest_of l) blank) ∙ sym (unchanged l 0)
              ∙ sym (ap (λ (o : Opening). set (hidden T l) 0 (seen T o.session)) (opening_refused T h 0 (get_or (hidden T l) 0 blank) a b t (omega arith) z)),
        )

    done_alone : lowest_of l < places → (opened_of 32 a b t).answer ≡ 0 → Alone l a b t (record { answer = 0; number = lowest_of l + 1; session = opened_for T a b t })
    unfolding Alone
    done_alone f z = go (lowest_of l + 1 - 1) (omega arith)
      where
        go : (p : ℕ) → p ≡ lowest_of l
            → (granted_by (record { answer = 0; number = lowest_of l + 1; session = opened_for T a b t }) ≡ granted_by (opening_of places p T blank a b t))
            × (hidden T (set l (lowest_of l) (opened_for T a b t)) ≡ set (hidden T l) p (seen T (opening_of places p T (get_or (hidden T l) p blank) a b t).session))
        go p e =
            rw e (
              sym (ap granted_by (opening_done T h (lowest_of l) blank a b t f z)),
              hidden_set T l (lowest_of l) (opened_for T a b t)
                  ∙ sym (ap (λ (o : Opening). set (hidden T l) (lowest_of l) (seen T o.session)) (opening_done T h (lowest_of l) (get_or (hidden T l) (lowest_of l) blank) a b t f z)),
            )

    opening_alone_lem : length l ≡ places → Alone l a b t (opening_at l T a b t)
    opening_alone_lem n = go (leb places (lowest_of l)) refl (eqb (opened_of 32 a b t).answer 0) refl
      where
        at_forty : opening_at l T a b t ≡ opening_of places (lowest_of l) T old a b t
        at_forty = ap (λ (k : ℕ). opening_of k (lowest_of l) T old a b t) n

        go : (f : Bool) → leb places (lowest_of l) ≡ f → (z : Bool) → eqb (opened_of 32 a b t).answer 0 ≡ z → Alone l a b t (opening_at l T a b t)
        go true e z u = subst (Alone l a b t) (sym (at_forty ∙ opening_full T h (lowest_of l) old a b t (leb-true places (lowest_of l) e))) full_alone
        go false e true u =
            let v : (opened_of 32 a b t).answer ≡ 0 = eqb-true (opened_of 32 a b t).answer 0 u in
            subst (Alone l a b t) (sym (at_forty ∙ opening_done T h (lowest_of l) old a b t (leb-false places (lowest_of l) e) v)) (done_alone (leb-false places (lowest_of l) e) v)
        go false e false u =
            subst (Alone l a b t) (sym (at_forty ∙ opening_refused T h (lowest_of l) old a b t (leb-false places (lowest_of l) e) (eqb-false (opened_of 32 a b t).answer 0 u)))
            (refused_alone (eqb-false (opened_of 32 a b t).answer 0 u))

  -- what T has in a run with others is what T has alone
  pub has_alone : (hs : List Happens) (w : Box) → length w.list ≡ places → Foreign T hs → has T w hs ≡ alone T (hidden T w.list) w.stores (mine_of hs) (grants T w hs)
  unfolding Alone has alone grants Foreign
  has_alone [] w n f = refl
  has_alone (mine number q ∷ hs) w n f =
      let store : List ℕ = lent_of (lends_for q) (stores_at w.stores number) in
      let p : reply_of (call_by T w.list w.stores number q) ≡ reply_of (call_by T (hidden T w.list) w.stores number q) = answers_alone T h w.list number store q in
      let s : (call_by T w.list w.stores number q).store ≡ (call_by T (hidden T w.list) w.stores number q).store = ap (λ (x : Reply). x.store) p in
      let x : hidden T (call_list T w.list w.stores number q) ≡ hidden T (call_list T (hidden T w.list) w.stores number q) = leaves_alone T h w.list number store q in
      let v : view T (call_list T w.list w.stores number q) ≡ view T (hidden T (call_list T (hidden T w.list) w.stores number q)) =
      sym (view_hidden T h 1 (call_list T w.list w.stores number q)) ∙ ap (view T) x in
      let k : has T (after T w (mine number q)) hs
      ≡ alone T (hidden T (call_list T w.list w.stores number q)) (call_stores w.stores number q (call_by T w.list w.stores number q).store) (mine_of hs) (grants T (after T w (mine number q)) hs) =
      has_alone hs (after T w (mine number q)) (length-set w.list (place_of number) (call_by T w.list w.stores number q).session ∙ n) f in
      cc
  has_alone (opening a b t given ∷ hs) w n f =
      let o : Opening = opening_at w.list T a b t in
      let g : Grant = grant_of o in
      let p : granted_by o ≡ granted_by (opening_alone T g blank a b t) = (opening_alone_lem w.list a b t n).0 in
      let x : hidden T (open_list_of w.list T a b t) ≡ list_alone T (hidden T w.list) g a b t = (opening_alone_lem w.list a b t n).1 in
      let s : open_stores w.stores o.number given ≡ open_stores w.stores (opening_alone T g blank a b t).number given = ap (λ (y : Granted). open_stores w.stores y.number given) p in
      let gs : List Grant = grants T (after T w (opening a b t given)) hs in
      has_same o (opening_alone T g blank a b t) p
      (sym (view_hidden T h 1 (open_list_of w.list T a b t)) ∙ ap (view T) x)
      s
      (has_alone hs (after T w (opening a b t given)) (length-set w.list (lowest_of w.list) o.session ∙ n) f
      ∙ ap (λ (H : List Session). alone T H (open_stores w.stores o.number given) (mine_of hs) gs) x
      ∙ ap (λ (st : List Stores). alone T (list_alone T (hidden T w.list) g a b t) st (mine_of hs) gs) s)
  has_alone (other token number store q ∷ hs) w n f =
      has_alone hs (after T w (other token number store q)) (length-set w.list (place_of number) (outcome_of w.list number token store q).session ∙ n) f.1
      ∙ ap (λ (H : List Session). alone T H w.stores (mine_of hs) (grants T (after T w (other token number store q)) hs)) (frame_sees T h w.list number token store q f.0)
  has_alone (other_opening token a b t ∷ hs) w n f =
      has_alone hs (after T w (other_opening token a b t)) (length-set w.list (lowest_of w.list) (opening_at w.list token a b t).session ∙ n) f.1
      ∙ ap (λ (H : List Session). alone T H w.stores (mine_of hs) (grants T (after T w (other_opening token a b t)) hs)) (frame_open_sees T h w.list token a b t f.0)

  pub histories : (w v : Box) → length w.list ≡ places → length v.list ≡ places → view T w.list ≡ view T v.list → w.stores ≡ v.stores
      → (hs gs : List Happens) → Foreign T hs → Foreign T gs → mine_of hs ≡ mine_of gs → grants T w hs ≡ grants T v gs → has T w hs ≡ has T v gs
  histories w v n m e s hs gs f k p g =
      let x : hidden T w.list ≡ hidden T v.list = view_sees T h w.list v.list (n ∙ sym m) e in
      has_alone hs w n f ∙ ap (λ (H : List Session). alone T H w.stores (mine_of hs) (grants T w hs)) x
      ∙ ap (λ (u : List Stores). alone T (hidden T v.list) u (mine_of hs) (grants T w hs)) s
      ∙ ap (λ (u : List Happens). alone T (hidden T v.list) v.stores u (grants T w hs)) p
      ∙ ap (λ (u : List Grant). alone T (hidden T v.list) v.stores (mine_of gs) u) g ∙ sym (has_alone gs v m k)
