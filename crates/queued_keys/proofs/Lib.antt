mod Weighing
