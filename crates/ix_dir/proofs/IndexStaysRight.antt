-- How the index beside the moves stay those of the files that stand.
use Rattle.std.proofs.Common.{◌≡◌, ℕ, zero, suc, ◌+◌, ◌<◌, ◌≤◌, Bool, true, false, cond, ◌&&◌, List, [], ◌∷◌, ◌++◌, length, refl, sym, ap, subst, Option, Some, None, is_some, arith, add-zero, zero-add, length-append}
use Rattle.std.specs.List.{slice_get}
use Rattle.std.specs.Option.{option_map, option_and_then}
use Rattle.std.specs.FinMap.{get, get-empty}
use Rattle.ix_dir.specs.declared.area.Area.{Area}
use Rattle.ix_dir.specs.declared.file_index.FileIndex.{FileIndex}
use Rattle.ix_dir.specs.Files.{File, file}
use Rattle.ix_types.specs.Row.{text_cmp}
use Rattle.ix_dir.specs.Moves.{Move, Renamed, Removed, Synced, Placed, area_after, same_area, same_name}
use Rattle.std.specs.declared.alloc.Global.{Global}
use Rattle.std.proofs.Common.{Vec, vec_capacity, ◌-◌}
use Rattle.ix_dir.specs.IndexInvariant.{file_put, file_at, IsNumbered, Indexes, IsKept}
use Rattle.ix_dir.specs.NumberByName.{number_at, room_of, Sets}
use Rattle.ix_dir.proofs.FileAfterAMove.{get-area_after}

-- a move stays where it is when more follow
slice_get-more : (moves : List Move) (more : List Move) (k : ℕ) (m : Move) → slice_get moves k ≡ Some m → slice_get (moves ++ more) k ≡ Some m
slice_get-more [] more k m e = cc
slice_get-more (x ∷ moves) more zero m e = e
slice_get-more (x ∷ moves) more (suc k) m e = slice_get-more moves more k m e

slice_get-last : (moves : List Move) (m : Move) → slice_get (moves ++ m ∷ []) (length moves) ≡ Some m
slice_get-last [] m = refl
slice_get-last (x ∷ moves) m = slice_get-last moves m

put-more : (moves more : List Move) (k : ℕ) (o : Option Move) (f : File) → slice_get moves k ≡ o → option_and_then file_put o ≡ Some f → file_at (moves ++ more) k ≡ Some f
put-more moves more k None f e h = cc
put-more moves more k (Some m) f e h = rw (slice_get-more moves more k m e) h

file_at-more : (moves more : List Move) (k : ℕ) (f : File) → file_at moves k ≡ Some f → file_at (moves ++ more) k ≡ Some f
file_at-more moves more k f e = put-more moves more k (slice_get moves k) f refl e

-- a name's number has its file still when more moves follow
still : (moves more : List Move) (number : Option ℕ) (found : Option File) → option_map (file_at moves) number ≡ option_map Some found → option_map (file_at (moves ++ more)) number ≡ option_map Some found
still moves more None found e = e
still moves more (Some k) None e = cc
still moves more (Some k) (Some f) e =
    let is : file_at moves k ≡ Some f = cc in
    ap Some (file_at-more moves more k f is)

-- a move that puts a file, and its number for the name
put_at : (moves : List Move) (move : Move) (f : File) → file_put move ≡ Some f → file_at (moves ++ move ∷ []) (length moves) ≡ Some f
put_at moves move f e = rw (slice_get-last moves move) e

set_here : (here : Bool) (moves : List Move) (move : Move) (f : File) (number : Option ℕ) (found : Option File) → file_put move ≡ Some f
    → option_map (file_at moves) number ≡ option_map Some found
    → option_map (file_at (moves ++ move ∷ [])) (cond here (Some (length moves)) number) ≡ option_map Some (cond here (Some f) found)
set_here true moves move f number found e h = ap Some (put_at moves move f e)
set_here false moves move f number found e h = still moves (move ∷ []) number found h

gone_here : (here : Bool) (moves : List Move) (move : Move) (number : Option ℕ) (found : Option File) → option_map (file_at moves) number ≡ option_map Some found
    → option_map (file_at (moves ++ move ∷ [])) (cond here None number) ≡ option_map Some (cond here None found)
gone_here true moves move number found h = refl
gone_here false moves move number found h = still moves (move ∷ []) number found h

pub indexes_renamed : (moves : List Move) (old new : FileIndex) (area : Area) (name bytes : List ℕ) (stamp : ℕ) → Indexes moves old → Sets old new area name (Some (length moves)) → Indexes (moves ++ Renamed area name bytes stamp ∷ []) new
indexes_renamed moves old new area name bytes stamp kept sets a q =
    rw (sets a q, get-area_after moves (Renamed area name bytes stamp) a q)
    (set_here (same_area a area && same_name name q) moves (Renamed area name bytes stamp) (file bytes stamp) _ _ refl (kept a q))

pub indexes_placed : (moves : List Move) (old new : FileIndex) (area : Area) (name bytes : List ℕ) (stamp : ℕ) → Indexes moves old → Sets old new area name (Some (length moves)) → Indexes (moves ++ Placed area name bytes stamp ∷ []) new
indexes_placed moves old new area name bytes stamp kept sets a q =
    rw (sets a q, get-area_after moves (Placed area name bytes stamp) a q)
    (set_here (same_area a area && same_name name q) moves (Placed area name bytes stamp) (file bytes stamp) _ _ refl (kept a q))

pub indexes_removed : (moves : List Move) (old new : FileIndex) (area : Area) (name : List ℕ) → Indexes moves old → Sets old new area name None → Indexes (moves ++ Removed area name ∷ []) new
indexes_removed moves old new area name kept sets a q =
    rw (sets a q, get-area_after moves (Removed area name) a q)
    (gone_here (same_area a area && same_name name q) moves (Removed area name) _ _ (kept a q))

pub indexes_synced : (moves : List Move) (index : FileIndex) (area : Area) → Indexes moves index → Indexes (moves ++ Synced area ∷ []) index
indexes_synced moves index area kept a q =
    rw (get-area_after moves (Synced area) a q) (still moves (Synced area ∷ []) _ _ (kept a q))

-- before the first move
pub indexes_empty : (index : FileIndex) → ((a : Area) (q : List ℕ) → number_at index a q ≡ None) → Indexes [] index
indexes_empty index none a q = rw (none a q, get-empty text_cmp q) refl

-- a name is there exactly where it has a number
pub there : (moves : List Move) (index : FileIndex) (a : Area) (q : List ℕ) → Indexes moves index → is_some (number_at index a q) ≡ is_some (get (area_after moves a) q)
there moves index a q kept = both (number_at index a q) (get (area_after moves a) q) (kept a q) where
  both : (number : Option ℕ) (found : Option File) → option_map (file_at moves) number ≡ option_map Some found → is_some number ≡ is_some found
  both None None e = refl
  both None (Some f) e = cc
  both (Some k) None e = cc
  both (Some k) (Some f) e = refl

-- a move whose file, if it puts one, has the number of the moves before it as its stamp
abbrev pub IsNext : ℕ → Move → Type 0
IsNext n move = IsNumbered n (move ∷ [])

pub numbered-append : (n : ℕ) (moves : List Move) (move : Move) → IsNumbered n moves → IsNext (n + length moves) move → IsNumbered n (moves ++ move ∷ [])
numbered-append n [] move h next = subst (λ k. IsNext k move) (add-zero n) next
numbered-append n (Renamed area name bytes stamp ∷ moves) move h next =
    (h.0, numbered-append (n + 1) moves move h.1 (subst (λ k. IsNext k move) (omega arith) next))
numbered-append n (Removed area name ∷ moves) move h next = numbered-append (n + 1) moves move h (subst (λ k. IsNext k move) (omega arith) next)
numbered-append n (Synced area ∷ moves) move h next = numbered-append (n + 1) moves move h (subst (λ k. IsNext k move) (omega arith) next)
numbered-append n (Placed area name bytes stamp ∷ moves) move h next =
    (h.0, numbered-append (n + 1) moves move h.1 (subst (λ k. IsNext k move) (omega arith) next))

-- all of it, after one move more
pub kept_with : (old new : Vec Move Global) (index index_now : FileIndex) (spare : ℕ) (move : Move) → IsKept old index spare → 0 < spare
    → new.items ≡ old.items ++ move ∷ [] → vec_capacity old ≤ vec_capacity new → room_of index ≤ room_of index_now + 1
    → Indexes (old.items ++ move ∷ []) index_now → IsNext (length old.items) move → IsKept new index_now (spare - 1)
kept_with old new index index_now spare move kept some items capacity room indexes next = record {
  room = omega (arith, ap length items, length-append old.items (move ∷ []), kept.room);
  index_room = omega (arith, kept.index_room);
  indexes = subst (λ moves. Indexes moves index_now) (sym items) indexes;
  numbered = subst (λ moves. IsNumbered 0 moves) (sym items) (numbered-append 0 old.items move kept.numbered (subst (λ n. IsNext n move) (sym (zero-add (length old.items))) next));
}
