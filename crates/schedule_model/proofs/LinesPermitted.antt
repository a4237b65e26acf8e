-- What the lines of the fault script make due is permitted.
use Rattle.std.proofs.Common.{ℕ, ◌-◌, ◌<◌, Bool, true, false, cond, nat_lt, List, [], ◌∷◌, length, map, get_or, Option, Some, None, ap, sym, subst, ⊎_elim, ◌∙◌, arith}
use Rattle.std.specs.List.{AllByRecursion}
use Rattle.std.specs.Prelude.{slice_set}
use Rattle.std.proofs.lemmas.Bool.{cases_eq}
use Rattle.std.proofs.lemmas.List.{get_or-set_other, get_or-set_same}
use Rattle.log_base.specs.ClusterShape.{Shape}
use Rattle.log_base.specs.declared.numbers.Client.{Client}
use Rattle.log_base.specs.declared.numbers.NodeId.{NodeId}
use Rattle.log_base.specs.declared.numbers.Number.{Number}
use Rattle.record_frame.specs.Entries.{IsEntry, entry_of}
use Rattle.fault_script.specs.declared.fault.Fault.{Fault}
use Rattle.fault_script.specs.declared.fault.Fault.TheVariants as fault
use Rattle.command_frame.specs.declared.items.Item.TheVariants.{Append, Fault as FaultItem}
use Rattle.fault_script.specs.Lines.{IsFault}
use Rattle.reply_frame.specs.declared.replies.Reply.{NoLetter, Done}
use Rattle.node_table.specs.Numbering.{nodes_of, orderer_node}
use Rattle.schedule_model.specs.declared.courses.Course.{Course}
use Rattle.schedule_model.specs.declared.courses.Course.TheVariants.{Replies, GoesOn, Takes, Completes, Ends, Answers, PutsOff, Replaces}
use Rattle.schedule_model.specs.declared.duties.Awaited.TheVariants.{Again}
use Rattle.schedule_model.specs.declared.duties.Afterwards.TheVariants.{TakenOut, LeftIn}
use Rattle.schedule_model.specs.declared.duties.Planned.{Planned}
use Rattle.schedule_model.specs.declared.duties.PutOff.{PutOff}
use Rattle.schedule_model.specs.declared.duties.Question.{Question}
use Rattle.schedule_model.specs.declared.duties.Question.TheVariants as question
use Rattle.schedule_model.specs.declared.duties.Duty.TheVariants.{DeliverOne}
use Rattle.schedule_model.specs.declared.duties.Signal.TheVariants.{Restart, Lead, Tick, Stop}
use Rattle.schedule_model.specs.Calling.{IsPlanned}
use Rattle.schedule_model.specs.Courses.{Scene, asked, asked_again, asked_anew, asked_last, line_course, resubmitted}
use Rattle.schedule_model.specs.Duties.{settling}
use Rattle.schedule_model.specs.Scheduling.{plans_after}
use Rattle.schedule_model.proofs.Kept.{each-append}
use Rattle.schedule_model.proofs.Permitted.{IsAskedAt, IsLateAt, IsOrdererNode, IsPermitted, IsPrimaryOr, IsRecord}

pub settling-permitted : (config : Shape) → AllByRecursion (IsPermitted config) (settling config)
settling-permitted config =
    ((omega arith, tt), (tt, ((omega arith, tt), (tt, ((omega arith, tt), (tt, ((omega arith, tt), (tt, tt))))))))

pub orderer-is : (config : Shape) (orderer : ℕ) → orderer < config.orderers → IsOrdererNode config (orderer_node config orderer)
orderer-is config orderer h = (omega arith, omega arith)

abbrev pub IsCoursePermitted : Shape → Course → Type 0
IsCoursePermitted config (Replies reply) = Unit {0}
IsCoursePermitted config (GoesOn duties) = AllByRecursion (IsPermitted config) duties
IsCoursePermitted config (Takes position entry next) = IsPermitted config next
IsCoursePermitted config (Completes position entry) = Unit {0}
IsCoursePermitted config (Ends last) = Unit {0}
IsCoursePermitted config (Answers reply duties) = AllByRecursion (IsPermitted config) duties
IsCoursePermitted config (PutsOff reply asked) = IsAskedAt config asked
IsCoursePermitted config (Replaces item reply) = Unit {0}

-- a lane's last append is sent again
pub resubmitted-permitted : (config : Shape) (client : Client) (number : Number) (bytes : List ℕ) (primary : Option NodeId) → IsPrimaryOr config primary
    → IsEntry (entry_of client number bytes) → IsCoursePermitted config (resubmitted client number bytes primary)
resubmitted-permitted config client number bytes None h entry = tt
resubmitted-permitted config client number bytes (Some primary) h entry = (((h, entry), h), tt)

-- questions are asked again
pub anew-permitted : (config : Shape) (late : PutOff) (asked : Question) → IsAskedAt config asked → IsPermitted config (asked_last config asked (Again late.item))
anew-permitted config late (question.Append primary client number) h = (h, tt)
anew-permitted config late (question.Wish orderer client value start) h = ((orderer-is config orderer h.0, h.1), tt)

pub all-anew-permitted : (config : Shape) (put_off : List PutOff) → AllByRecursion (IsLateAt config) put_off
    → AllByRecursion (IsPermitted config) (map (asked_anew config) put_off)
all-anew-permitted config [] h = tt
all-anew-permitted config (late ∷ put_off) h = (anew-permitted config late late.question h.0, all-anew-permitted config put_off h.1)

pub with_letter-permitted : (config : Shape) (course : Course) (waiting : ℕ) (there : Bool) → IsCoursePermitted config course
    → IsCoursePermitted config (cond there course (Replies (NoLetter waiting)))
with_letter-permitted config course waiting true h = h
with_letter-permitted config course waiting false h = tt

pub line-permitted : (config : Shape) (scene : Scene) (again : Course) (f : Fault) → IsFault config f → AllByRecursion (IsLateAt config) scene.questions → IsCoursePermitted config again
    → IsCoursePermitted config (line_course config scene again f)
line-permitted config scene again fault.Hold is holds h = tt
line-permitted config scene again fault.Settle is holds h =
    each-append (IsPermitted config) (settling config) (asked_again config scene.questions) (settling-permitted config) (all-anew-permitted config scene.questions holds)
line-permitted config scene again (fault.Tick node) is holds h = ((let below : node.0 < nodes_of config = is in omega arith, tt), tt)
line-permitted config scene again (fault.Deliver letter) is holds h =
    with_letter-permitted config (Answers Done (DeliverOne letter TakenOut ∷ [])) scene.waiting (nat_lt letter scene.waiting) (tt, tt)
line-permitted config scene again (fault.Drop letter) is holds h = with_letter-permitted config (Replies Done) scene.waiting (nat_lt letter scene.waiting) tt
line-permitted config scene again (fault.Again letter) is holds h =
    with_letter-permitted config (Answers Done (DeliverOne letter LeftIn ∷ [])) scene.waiting (nat_lt letter scene.waiting) (tt, tt)
line-permitted config scene again (fault.Stop node) is holds h = ((let below : node.0 < nodes_of config = is in omega arith, tt), tt)
line-permitted config scene again (fault.StopAfter node after keep) is holds h = tt
line-permitted config scene again (fault.Lose node after) is holds h = tt
line-permitted config scene again (fault.Restart node) is holds h = ((let below : node.0 < nodes_of config = is in omega arith, tt), tt)
line-permitted config scene again (fault.Lead orderer) is holds h = ((let below : orderer < config.orderers = is in omega arith, omega arith), tt)
line-permitted config scene again fault.Resubmit is holds h = h

-- the record that a lane keeps leaves the others as they are
pub record-kept : (records : List (List ℕ)) (lane k : ℕ) (bytes : List ℕ) → lane < length records → IsRecord bytes → IsRecord (get_or records k [])
    → IsRecord (get_or (slice_set records lane bytes) k [])
record-kept records lane k bytes within new old = ⊎_elim
    (λ same. subst IsRecord (sym (ap (λ (n : ℕ). get_or (slice_set records lane bytes) n []) same ∙ get_or-set_same records lane bytes [] within)) new)
    (λ other. subst IsRecord (sym (get_or-set_other records lane k bytes [] other)) old)
    (cases_eq k lane)

-- what is planned is for a node with disks
pub line-plans : (config : Shape) (lane : ℕ) (f : Fault) (plans : List Planned) → IsFault config f → AllByRecursion (IsPlanned config) plans
    → AllByRecursion (IsPlanned config) (plans_after (FaultItem lane f) plans)
line-plans config lane fault.Hold plans is h = h
line-plans config lane fault.Settle plans is h = h
line-plans config lane (fault.Tick node) plans is h = h
line-plans config lane (fault.Deliver letter) plans is h = h
line-plans config lane (fault.Drop letter) plans is h = h
line-plans config lane (fault.Again letter) plans is h = h
line-plans config lane (fault.Stop node) plans is h = h
line-plans config lane (fault.StopAfter node after keep) plans is h = each-append (IsPlanned config) plans (record { node = node; plan = record { after = after; keep = keep; lose = false } } ∷ []) h (is.0, tt)
line-plans config lane (fault.Lose node after) plans is h = each-append (IsPlanned config) plans (record { node = node; plan = record { after = after; keep = 0; lose = true } } ∷ []) h (is.0, tt)
line-plans config lane (fault.Restart node) plans is h = h
line-plans config lane (fault.Lead orderer) plans is h = h
line-plans config lane fault.Resubmit plans is h = h
