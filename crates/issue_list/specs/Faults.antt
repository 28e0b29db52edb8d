-- How the fault of a statement's tasks is handed on.
use Rattle.task_graph.specs.declared.fault.TaskFault.{TaskFault}
use Rattle.task_graph.specs.declared.fault.TaskFault.TheVariants as tasks
use Rattle.issue_list.specs.declared.fault.IssueFault.{IssueFault}
use Rattle.issue_list.specs.declared.fault.IssueFault.TheVariants.{Memory, TooManySteps}

abbrev pub fault_of : TaskFault → IssueFault
fault_of tasks.Memory = Memory
fault_of tasks.TooMany = TooManySteps
