use Rattle.std.proofs.Common.{◌≡◌, take}
use Rattle.gs_picture.specs.Courses.{each_course}
use Rattle.gs_picture.proofs.courses.each_course.Given as goal

-- the courses of the messages so far
abbrev pub invariant-loop-message : goal.invariant-loop-message
invariant-loop-message l = l.found ≡ each_course l.of (take l.message-index l.messages)
